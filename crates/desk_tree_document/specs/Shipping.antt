-- What a document that is read from a draft's text says about the draft's package (SPDX 2.3,
-- clauses 7.9 and 11.1).
use Rattle.std.specs.Prelude.{◌≡◌, ◌<◌, ℕ, true, List, [], ◌∷◌, length, map, All, Ok}
use Rattle.desk_bom.specs.Codes.{IsCode, IsState}
use Rattle.desk_bom.specs.Shipping.{AreShipped, AreShippingMarks}
use Rattle.desk_bom.specs.declared.state.CodeState.TheVariants as states
use Rattle.desk_tagvalue.specs.Documents.{Spells}
use Rattle.desk_tagvalue.specs.Drafts.{draft_lines}
use Rattle.desk_tagvalue.specs.Given.{GivesDraft}
use Rattle.desk_tagvalue.specs.Parts.{DocumentText}
use Rattle.desk_tagvalue.specs.Written.{Adds}
use Rattle.desk_tagvalue.specs.declared.drafts.Draft.{Draft}
use Rattle.desk_tagvalue.specs.declared.drafts.DraftFile.{DraftFile}

-- the SHA1 of a file is 20 bytes
abbrev pub IsDigest : DraftFile → Type 0
IsDigest f = (length f.digest ≡ 20) × All (λ b. b < 256) f.digest

-- this is the text of a draft whose verification code is that of its files
pub record IsTextOf (d : Draft) (text : List ℕ) : Type 0 where
  pub code : IsCode (map (λ (f : DraftFile). f.digest) d.files) d.code
  -- it has the draft's lines, each of which is read back
  pub lines : Adds [] (draft_lines d) text

-- a document says what a draft says, and ships its package
pub record ShipsDraft (d : Draft) (x : DocumentText) : Type 0 where
  pub gives : GivesDraft d x
  -- its one package ships
  pub ships : AreShipped x (0 ∷ [])
  pub marks : AreShippingMarks x (true ∷ [])
  -- the package's verification code is that of its files
  pub agrees : IsState x 0 states.Agrees

-- what a text spells ships a draft's package
abbrev pub ShipsWhenRead : Draft → List ℕ → Type 0
ShipsWhenRead d text = (x : DocumentText) → Spells text (Ok x) → ShipsDraft d x
