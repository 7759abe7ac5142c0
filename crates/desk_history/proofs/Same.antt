-- Tables with the same rows.
use Rattle.std.proofs.Common.{◌≡◌}
use Rattle.desk_model.specs.Tables.{Tables}

pub same_tables : (a b : Tables) → a.catalogue ≡ b.catalogue → a.forms ≡ b.forms → a.rule ≡ b.rule
    → a.document ≡ b.document → a.packages ≡ b.packages → a.extracted ≡ b.extracted
    → a.conclusion ≡ b.conclusion → a.adoption ≡ b.adoption → a.releases ≡ b.releases
    → a.attached ≡ b.attached → a.choice ≡ b.choice → a.frozen ≡ b.frozen → a.duty ≡ b.duty
    → a.changes ≡ b.changes → a ≡ b
same_tables a b e0 e1 e2 e3 e4 e5 e6 e7 e8 e9 e10 e11 e12 e13 = λ i. record {
  catalogue = e0 i;
  forms = e1 i;
  rule = e2 i;
  document = e3 i;
  packages = e4 i;
  extracted = e5 i;
  conclusion = e6 i;
  adoption = e7 i;
  releases = e8 i;
  attached = e9 i;
  choice = e10 i;
  frozen = e11 i;
  duty = e12 i;
  changes = e13 i;
}
