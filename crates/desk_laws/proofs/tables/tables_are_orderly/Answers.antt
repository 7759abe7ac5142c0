use Rattle.desk_laws.proofs.Orderly.{orderly}
use Rattle.desk_laws.proofs.tables.tables_are_orderly.Goals as goal

pub returns : goal.returns
returns c = λ w h in_order ids. orderly w h ids (record {
  sorted = c.tables_are_sorted.ensures w h;
  listed = c.listed_tables_are_sorted.ensures w h in_order;
  by_loads = c.catalogues_are_the_loads.ensures.revisions h;
  by_revisions = c.catalogues_are_the_loads.ensures.rules w h;
  by_imports = c.documents_are_the_imports.ensures.documents w h;
  by_documents = c.documents_are_the_imports.ensures.packages w h;
})
