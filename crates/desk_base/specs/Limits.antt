-- The desk's limits, as its definitions have them.
use Rattle.std.specs.Prelude.{ℕ}

-- the bytes of the longest licence expression that is read
abbrev pub expression_bytes : ℕ
expression_bytes = 16384

-- how many parentheses of a licence expression may be open at once
abbrev pub open_parentheses : ℕ
open_parentheses = 64

-- how many terms a licence expression may have; each occurrence counts
abbrev pub expression_terms : ℕ
expression_terms = 1024

-- the bytes of the longest tag-value document that is read
abbrev pub document_bytes : ℕ
document_bytes = 4194304

-- how many packages, files, snippets and extracted licences a document may have together
abbrev pub document_elements : ℕ
document_elements = 10000

-- how many distinct terms an expression may have if its minimal sets are listed
abbrev pub listed_terms : ℕ
listed_terms = 128

-- how many minimal sets the first parts of a node may have in an expression whose minimal sets are
-- listed
abbrev pub listed_sets : ℕ
listed_sets = 64

-- the bytes of the longest catalogue that is read
abbrev pub catalogue_bytes : ℕ
catalogue_bytes = 4194304

-- how many forms a catalogue may list
abbrev pub forms : ℕ
forms = 16

-- the bytes of the longest form and of the longest code of a duty
abbrev pub id_bytes : ℕ
id_bytes = 64

-- the bytes of the longest title of a duty
abbrev pub title_bytes : ℕ
title_bytes = 256

-- the highest cost of a term
abbrev pub term_cost : ℕ
term_cost = 1000000

-- how many revisions of the catalogue a desk keeps
abbrev pub revisions : ℕ
revisions = 4096

-- how many documents a desk keeps
abbrev pub documents : ℕ
documents = 4096

-- how many releases a desk keeps
abbrev pub releases : ℕ
releases = 4096

-- how many documents a release may have
abbrev pub attached : ℕ
attached = 64

-- the bytes of the longest name of a release
abbrev pub name_bytes : ℕ
name_bytes = 64

-- how many references of a document may be adopted
abbrev pub adoptions : ℕ
adoptions = 10000

-- how many duties a desk keeps
abbrev pub duties : ℕ
duties = 100000

-- how many changes a duty has at most before it is withdrawn
abbrev pub changes : ℕ
changes = 999

-- the bytes of the longest text of a change
abbrev pub note_bytes : ℕ
note_bytes = 1024

-- the bytes of the longest line of a script that may be a request, without its line end
abbrev pub line_bytes : ℕ
line_bytes = 8388608

-- how often a script reads
abbrev pub script_reads : ℕ
script_reads = 1048576

-- how many files a source tree may have from which something is gathered
abbrev pub tree_files : ℕ
tree_files = 10000
