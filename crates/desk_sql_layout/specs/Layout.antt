-- The desk's tables as they are declared: STRICT, no column NULL unless it is said, no foreign
-- keys. Schema version 3.
use Rattle.sqlite.specs.Collation.TheVariants.{Binary}
use Rattle.std.specs.Prelude.{ℕ, Bool, true, false, List, [], ◌∷◌, Option, Some, None, codes}
use Rattle.sqlite_value.specs.declared.value.Value.TheVariants.{Null}
use Rattle.sqlite_value.specs.declared.keys.Order.{Order}
use Rattle.sqlite_value.specs.Keys.{plain}
use Rattle.sqlite_schema.specs.declared.schema.Column.{Column}
use Rattle.sqlite_schema.specs.declared.schema.Kind.{Kind}
use Rattle.sqlite_schema.specs.declared.schema.Kind.TheVariants.{Integer, Text, Blob}
use Rattle.sqlite_schema.specs.declared.schema.Table.{Table}
use Rattle.sqlite_schema.specs.declared.schema.Schema.{Schema}
use Rattle.sqlite_catalog.specs.Listing.{automatic}

-- the version of these tables
abbrev pub schema_version : ℕ
schema_version = 3

-- a column without a default, whose texts compare byte by byte (SQLite, "Datatypes in SQLite", 7)
abbrev pub column_of : List ℕ → Kind → Bool → Column
column_of name kind not_null = record {
  name = name;
  kind = kind;
  is_strict = true;
  not_null = not_null;
  default = Null;
  collation = Binary;
}

-- A table with its tree and its columns; the column that is its rowid, if it has one; and the
-- places in a row of its primary key and of each key that it keeps unique. Place 0 is the rowid.
abbrev pub table_of : List ℕ → ℕ → List Column → Option ℕ → List ℕ → List (List ℕ) → List Order
    → Table
table_of name tree columns key primary uniques orders = record {
  name = name;
  tree = tree;
  columns = columns;
  key = key;
  primary = primary;
  uniques = uniques;
  orders = orders;
  checks = [];
  references = [];
  computed = [];
  stamps = record { places = []; terms = []; formats = [] };
  is_counted = false;
}

-- the schema of a new file
abbrev pub no_schema : Schema
no_schema = record { tables = []; indexes = []; views = [] }

-- the version of the tables: one row
abbrev pub meta_text : List ℕ
meta_text = codes "CREATE TABLE meta (version INTEGER NOT NULL PRIMARY KEY) STRICT"

-- its only column is the rowid (SQLite, CREATE TABLE, "ROWIDs and the INTEGER PRIMARY KEY")
abbrev pub meta_table : Table
meta_table = table_of (codes "meta") 0 (column_of (codes "version") Integer true ∷ [])
    (Some 0) (0 ∷ []) ([]) ([])

-- revisions of the catalogue
abbrev pub catalogue_text : List ℕ
catalogue_text = codes
    "CREATE TABLE catalogue (revision INTEGER NOT NULL PRIMARY KEY, body TEXT NOT NULL) STRICT"

-- the revision is the rowid
abbrev pub catalogue_table : Table
catalogue_table = table_of (codes "catalogue") 1
    (column_of (codes "revision") Integer true ∷ column_of (codes "body") Text true ∷ [])
    (Some 0) (0 ∷ []) ([]) ([])

-- rules of a revision; the codes are joined by one space
abbrev pub rule_text : List ℕ
rule_text = codes
    "CREATE TABLE rule (revision INTEGER NOT NULL, term TEXT NOT NULL, form TEXT NOT NULL, spelled TEXT NOT NULL, codes TEXT NOT NULL, PRIMARY KEY (revision, term, form)) STRICT"

-- one row for each revision, term and form
abbrev pub rule_table : Table
rule_table = table_of (codes "rule") 2
    (column_of (codes "revision") Integer true ∷ column_of (codes "term") Text true
    ∷ column_of (codes "form") Text true ∷ column_of (codes "spelled") Text true
    ∷ column_of (codes "codes") Text true ∷ [])
    None (1 ∷ 2 ∷ 3 ∷ []) ((1 ∷ 2 ∷ 3 ∷ []) ∷ []) (plain ∷ [])

-- documents
abbrev pub document_text : List ℕ
document_text = codes
    "CREATE TABLE document (number INTEGER NOT NULL PRIMARY KEY, namespace TEXT NOT NULL UNIQUE, bytes BLOB NOT NULL) STRICT"

-- the number is the rowid, and each namespace is there once
abbrev pub document_table : Table
document_table = table_of (codes "document") 4
    (column_of (codes "number") Integer true ∷ column_of (codes "namespace") Text true
    ∷ column_of (codes "bytes") Blob true ∷ [])
    (Some 0) (0 ∷ []) ((2 ∷ []) ∷ []) (plain ∷ [])

-- packages of a document; a version, a conclusion or a copyright that is missing is NULL
abbrev pub package_text : List ℕ
package_text = codes
    "CREATE TABLE package (document INTEGER NOT NULL, id TEXT NOT NULL, name TEXT NOT NULL, version TEXT, concluded TEXT, copyright TEXT, shipped INTEGER NOT NULL, PRIMARY KEY (document, id)) STRICT"

-- one row for each document and id; version, conclusion and copyright may be NULL
abbrev pub package_table : Table
package_table = table_of (codes "package") 6
    (column_of (codes "document") Integer true ∷ column_of (codes "id") Text true
    ∷ column_of (codes "name") Text true ∷ column_of (codes "version") Text false
    ∷ column_of (codes "concluded") Text false ∷ column_of (codes "copyright") Text false
    ∷ column_of (codes "shipped") Integer true ∷ [])
    None (1 ∷ 2 ∷ []) ((1 ∷ 2 ∷ []) ∷ []) (plain ∷ [])

-- licence references that a document defines; a text that is missing is NULL
abbrev pub extracted_text : List ℕ
extracted_text = codes
    "CREATE TABLE extracted (document INTEGER NOT NULL, reference TEXT NOT NULL, body TEXT, PRIMARY KEY (document, reference)) STRICT"

-- one row for each document and reference; the text may be NULL
abbrev pub extracted_table : Table
extracted_table = table_of (codes "extracted") 8
    (column_of (codes "document") Integer true ∷ column_of (codes "reference") Text true
    ∷ column_of (codes "body") Text false ∷ [])
    None (1 ∷ 2 ∷ []) ((1 ∷ 2 ∷ []) ∷ []) (plain ∷ [])

-- the office's conclusions
abbrev pub conclusion_text : List ℕ
conclusion_text = codes
    "CREATE TABLE conclusion (document INTEGER NOT NULL, package TEXT NOT NULL, expression TEXT NOT NULL, PRIMARY KEY (document, package)) STRICT"

-- one row for each package: a later conclusion replaces it
abbrev pub conclusion_table : Table
conclusion_table = table_of (codes "conclusion") 10
    (column_of (codes "document") Integer true ∷ column_of (codes "package") Text true
    ∷ column_of (codes "expression") Text true ∷ [])
    None (1 ∷ 2 ∷ []) ((1 ∷ 2 ∷ []) ∷ []) (plain ∷ [])

-- the licences as which references are adopted
abbrev pub adoption_text : List ℕ
adoption_text = codes
    "CREATE TABLE adoption (document INTEGER NOT NULL, reference TEXT NOT NULL, licence TEXT NOT NULL, PRIMARY KEY (document, reference)) STRICT"

-- one row for each document and reference: a later adoption replaces it
abbrev pub adoption_table : Table
adoption_table = table_of (codes "adoption") 12
    (column_of (codes "document") Integer true ∷ column_of (codes "reference") Text true
    ∷ column_of (codes "licence") Text true ∷ [])
    None (1 ∷ 2 ∷ []) ((1 ∷ 2 ∷ []) ∷ []) (plain ∷ [])

-- releases
abbrev pub releases_text : List ℕ
releases_text = codes
    "CREATE TABLE releases (name TEXT NOT NULL, place INTEGER NOT NULL UNIQUE, form TEXT NOT NULL, state TEXT NOT NULL, revision INTEGER NOT NULL, PRIMARY KEY (name)) STRICT"

-- one row for each name, and one for each place
abbrev pub releases_table : Table
releases_table = table_of (codes "releases") 14
    (column_of (codes "name") Text true ∷ column_of (codes "place") Integer true
    ∷ column_of (codes "form") Text true ∷ column_of (codes "state") Text true
    ∷ column_of (codes "revision") Integer true ∷ [])
    None (1 ∷ []) ((2 ∷ []) ∷ (1 ∷ []) ∷ []) (plain ∷ plain ∷ [])

-- documents that are attached to a release
abbrev pub attached_text : List ℕ
attached_text = codes
    "CREATE TABLE attached (release TEXT NOT NULL, document INTEGER NOT NULL, PRIMARY KEY (release, document)) STRICT"

-- one row for each release and document
abbrev pub attached_table : Table
attached_table = table_of (codes "attached") 17
    (column_of (codes "release") Text true ∷ column_of (codes "document") Integer true ∷ [])
    None (1 ∷ 2 ∷ []) ((1 ∷ 2 ∷ []) ∷ []) (plain ∷ [])

-- terms that are chosen for a package in a release
abbrev pub choice_text : List ℕ
choice_text = codes
    "CREATE TABLE choice (release TEXT NOT NULL, document INTEGER NOT NULL, package TEXT NOT NULL, term TEXT NOT NULL, PRIMARY KEY (release, document, package, term)) STRICT"

-- one row for each term of a choice
abbrev pub choice_table : Table
choice_table = table_of (codes "choice") 19
    (column_of (codes "release") Text true ∷ column_of (codes "document") Integer true
    ∷ column_of (codes "package") Text true ∷ column_of (codes "term") Text true ∷ [])
    None (1 ∷ 2 ∷ 3 ∷ 4 ∷ []) ((1 ∷ 2 ∷ 3 ∷ 4 ∷ []) ∷ []) (plain ∷ [])

-- terms with which a release was frozen
abbrev pub frozen_text : List ℕ
frozen_text = codes
    "CREATE TABLE frozen (release TEXT NOT NULL, document INTEGER NOT NULL, package TEXT NOT NULL, term TEXT NOT NULL, rule TEXT NOT NULL, PRIMARY KEY (release, document, package, term)) STRICT"

-- one row for each term of a package
abbrev pub frozen_table : Table
frozen_table = table_of (codes "frozen") 21
    (column_of (codes "release") Text true ∷ column_of (codes "document") Integer true
    ∷ column_of (codes "package") Text true ∷ column_of (codes "term") Text true
    ∷ column_of (codes "rule") Text true ∷ [])
    None (1 ∷ 2 ∷ 3 ∷ 4 ∷ []) ((1 ∷ 2 ∷ 3 ∷ 4 ∷ []) ∷ []) (plain ∷ [])

-- duties
abbrev pub duty_text : List ℕ
duty_text = codes
    "CREATE TABLE duty (number INTEGER NOT NULL PRIMARY KEY, release TEXT NOT NULL, document INTEGER NOT NULL, package TEXT NOT NULL, term TEXT NOT NULL, code TEXT NOT NULL, rule TEXT NOT NULL, state TEXT NOT NULL, UNIQUE (release, document, package, term, code)) STRICT"

-- the number is the rowid; what raised a duty and its code are together there once
abbrev pub duty_table : Table
duty_table = table_of (codes "duty") 23
    (column_of (codes "number") Integer true ∷ column_of (codes "release") Text true
    ∷ column_of (codes "document") Integer true ∷ column_of (codes "package") Text true
    ∷ column_of (codes "term") Text true ∷ column_of (codes "code") Text true
    ∷ column_of (codes "rule") Text true ∷ column_of (codes "state") Text true ∷ [])
    (Some 0) (0 ∷ []) ((2 ∷ 3 ∷ 4 ∷ 5 ∷ 6 ∷ []) ∷ []) (plain ∷ [])

-- changes of a duty
abbrev pub change_text : List ℕ
change_text = codes
    "CREATE TABLE change (duty INTEGER NOT NULL, step INTEGER NOT NULL, day TEXT NOT NULL, word TEXT NOT NULL, body TEXT NOT NULL, PRIMARY KEY (duty, step)) STRICT"

-- one row for each step of a duty
abbrev pub change_table : Table
change_table = table_of (codes "change") 25
    (column_of (codes "duty") Integer true ∷ column_of (codes "step") Integer true
    ∷ column_of (codes "day") Text true ∷ column_of (codes "word") Text true
    ∷ column_of (codes "body") Text true ∷ [])
    None (1 ∷ 2 ∷ []) ((1 ∷ 2 ∷ []) ∷ []) (plain ∷ [])

-- the profile with which a document was imported
abbrev pub reading_text : List ℕ
reading_text = codes
    "CREATE TABLE reading (document INTEGER NOT NULL PRIMARY KEY, profile INTEGER NOT NULL) STRICT"

-- one row for each document, whose number is the rowid
abbrev pub reading_table : Table
reading_table = table_of (codes "reading") 27
    (column_of (codes "document") Integer true ∷ column_of (codes "profile") Integer true ∷ [])
    (Some 0) (0 ∷ []) ([]) ([])

-- the last day of a waiver that ends
abbrev pub waiver_text : List ℕ
waiver_text = codes
    "CREATE TABLE waiver (duty INTEGER NOT NULL, step INTEGER NOT NULL, last_day TEXT NOT NULL, PRIMARY KEY (duty, step)) STRICT"

-- one row for each waiver with a last day, by its duty and its step
abbrev pub waiver_table : Table
waiver_table = table_of (codes "waiver") 28
    (column_of (codes "duty") Integer true ∷ column_of (codes "step") Integer true
    ∷ column_of (codes "last_day") Text true ∷ [])
    None (1 ∷ 2 ∷ []) ((1 ∷ 2 ∷ []) ∷ []) (plain ∷ [])

-- A file that has the desk's tables and nothing else. Trees are numbered in the order of the
-- declarations; an index that SQLite makes for a key comes right after its table.
abbrev pub desk_schema : Schema
desk_schema = record {
  tables = meta_table ∷ catalogue_table ∷ rule_table ∷ document_table ∷ package_table
      ∷ extracted_table ∷ conclusion_table ∷ adoption_table ∷ releases_table ∷ attached_table
      ∷ choice_table ∷ frozen_table ∷ duty_table ∷ change_table ∷ reading_table ∷ waiver_table ∷ [];
  indexes = automatic rule_table 0 (1 ∷ 2 ∷ 3 ∷ []) 3 ∷ automatic document_table 0 (2 ∷ []) 5
      ∷ automatic package_table 0 (1 ∷ 2 ∷ []) 7 ∷ automatic extracted_table 0 (1 ∷ 2 ∷ []) 9
      ∷ automatic conclusion_table 0 (1 ∷ 2 ∷ []) 11 ∷ automatic adoption_table 0 (1 ∷ 2 ∷ []) 13
      ∷ automatic releases_table 0 (2 ∷ []) 15 ∷ automatic releases_table 1 (1 ∷ []) 16
      ∷ automatic attached_table 0 (1 ∷ 2 ∷ []) 18
      ∷ automatic choice_table 0 (1 ∷ 2 ∷ 3 ∷ 4 ∷ []) 20
      ∷ automatic frozen_table 0 (1 ∷ 2 ∷ 3 ∷ 4 ∷ []) 22
      ∷ automatic duty_table 0 (2 ∷ 3 ∷ 4 ∷ 5 ∷ 6 ∷ []) 24
      ∷ automatic change_table 0 (1 ∷ 2 ∷ []) 26 ∷ automatic waiver_table 0 (1 ∷ 2 ∷ []) 29 ∷ [];
  views = [];
}
