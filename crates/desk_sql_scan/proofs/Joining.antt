-- A whole snapshot from its parts.
use Rattle.std.proofs.Common.{◌≡◌}
use Rattle.sqlite.specs.Effect.{Database}
use Rattle.desk_history.specs.Laws.{AreSortedAsListed}
use Rattle.desk_model.specs.Tables.{Tables}
use Rattle.desk_snapshot.specs.Tables.{snapshot_of}
use Rattle.desk_sql_scan.specs.declared.whole.FirstPart.{FirstPart}
use Rattle.desk_sql_scan.specs.declared.whole.SecondPart.{SecondPart}
use Rattle.desk_sql_scan.specs.Parts.{HasCatalogues, HasDocuments, HasDuties, HasOffice}
use Rattle.desk_sql_scan.specs.Parts.{HasReleases, OfCatalogues, OfDocuments, OfDuties, OfOffice}
use Rattle.desk_sql_scan.specs.Parts.{AreRowsOf, OfReleases, joined_of}
use Rattle.desk_sql_scan.specs.Scans.{IsSnapshot}

pub joined_has : (first : FirstPart) (second : SecondPart) (db : Database)
    → (HasDocuments first.documents db × HasDuties first.duties db)
    × (HasCatalogues second.catalogues db
    × (HasOffice second.office db × HasReleases second.releases db))
    → IsSnapshot (joined_of first second) db
joined_has first second db ((d, q), (c, (o, r))) = record {
  meta = c.0;
  catalogue = c.1.0;
  rule = c.1.1;
  document = d.0;
  reading = d.1.0;
  packages = d.1.1.0;
  extracted = d.1.1.1;
  conclusion = o.0;
  adoption = o.1;
  releases = r.0;
  attached = r.1.0;
  choice = r.1.1.0;
  frozen = r.1.1.1;
  duty = q.1.0;
  changes = q.0;
  waiver = q.1.1;
}

joined_listed : (first : FirstPart) (second : SecondPart) (t : Tables)
    → (OfDocuments first.documents t × OfDuties first.duties t)
    × (OfCatalogues second.catalogues t × (OfOffice second.office t × OfReleases second.releases t))
    → AreSortedAsListed t → joined_of first second ≡ snapshot_of t
joined_listed first second t ((d, q), (c, (o, r))) sorted = λ i. record {
  meta = c.0 i;
  catalogue = c.1.0 i;
  rule = c.1.1 sorted i;
  document = d.0 i;
  reading = d.1.0 i;
  packages = d.1.1.0 i;
  extracted = d.1.1.1 sorted i;
  conclusion = o.0 i;
  adoption = o.1 i;
  releases = r.0 i;
  attached = r.1.0 i;
  choice = r.1.1.0 i;
  frozen = r.1.1.1 i;
  duty = q.1.0 i;
  changes = q.0 i;
  waiver = q.1.1 i;
}

joined_rows : (first : FirstPart) (second : SecondPart) (t : Tables)
    → (OfDocuments first.documents t × OfDuties first.duties t)
    × (OfCatalogues second.catalogues t × (OfOffice second.office t × OfReleases second.releases t))
    → joined_of first second ≡ record (snapshot_of t) {
      rule = second.catalogues.rule;
      extracted = first.documents.extracted;
    }
joined_rows first second t ((d, q), (c, (o, r))) = λ i. record {
  meta = c.0 i;
  catalogue = c.1.0 i;
  rule = second.catalogues.rule;
  document = d.0 i;
  reading = d.1.0 i;
  packages = d.1.1.0 i;
  extracted = first.documents.extracted;
  conclusion = o.0 i;
  adoption = o.1 i;
  releases = r.0 i;
  attached = r.1.0 i;
  choice = r.1.1.0 i;
  frozen = r.1.1.1 i;
  duty = q.1.0 i;
  changes = q.0 i;
  waiver = q.1.1 i;
}

pub joined_is : (first : FirstPart) (second : SecondPart) (t : Tables)
    → (OfDocuments first.documents t × OfDuties first.duties t)
    × (OfCatalogues second.catalogues t × (OfOffice second.office t × OfReleases second.releases t))
    → AreRowsOf (joined_of first second) t
joined_is first second t it = record {
  rows = joined_rows first second t it;
  listed = joined_listed first second t it;
}
