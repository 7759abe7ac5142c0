-- The words of a look, and the line with them.
use Rattle.std.specs.Prelude.{ℕ, List, [], ◌∷◌, ◌++◌, codes, Option, None, Some}
use Rattle.desk_looks.specs.declared.look.Look.{Look}
use Rattle.desk_looks.specs.declared.look.Look.TheVariants.{Gzip, Spreadsheet, Zip}
use Rattle.desk_looks.specs.declared.look.Look.TheVariants.{CycloneDxXml, SpdxRdf, SpdxXml}
use Rattle.desk_looks.specs.declared.look.Look.TheVariants.{Spdx3, SpdxYaml, LicenceText}

-- what it is, and what makes a document of it
abbrev pub look_words : Look → List ℕ
look_words Gzip = codes "a gzip file: unpack it first, as with gunzip"
look_words Spreadsheet = codes "a spreadsheet: if it is one of SPDX, save it as .xlsx and convert it to JSON first, as with Convert of SPDX's tools-java"
look_words Zip = codes "a ZIP archive: unpack it first, as with unzip"
look_words CycloneDxXml = codes "CycloneDX in XML: convert it to JSON first, as with cyclonedx-cli convert"
look_words SpdxRdf = codes "SPDX in RDF/XML: convert it to JSON first, as with pyspdxtools or Convert of SPDX's tools-java"
look_words SpdxXml = codes "SPDX in XML: convert it to JSON first, as with pyspdxtools or Convert of SPDX's tools-java"
look_words Spdx3 = codes "SPDX 3 in JSON-LD, and SPDX 2.2 and 2.3 are read: have the tool that wrote it write SPDX 2.3"
look_words SpdxYaml = codes "SPDX in YAML: convert it to JSON first, as with pyspdxtools or Convert of SPDX's tools-java"
look_words LicenceText = codes "the text of a licence, and no document: a text for the catalogue, or for desk texts"

-- the line that says so, if there is something to say
abbrev pub look_line : Option Look → List ℕ
look_line None = []
look_line (Some look) = (codes "it looks like " ++ look_words look) ++ 10 ∷ []
