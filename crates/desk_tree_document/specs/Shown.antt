-- How the code's values correspond to those of the definitions.
use Rattle.desk_tree_document.specs.declared.drafting.Title.{Title}
use Rattle.desk_tree_document.specs.Drafts.{Named}

-- the title that the code keeps, as bytes
abbrev pub named : Title → Named
named t = record { name = t.name.now; namespace = t.namespace.now; created = t.created.now }
