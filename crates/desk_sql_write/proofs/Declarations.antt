-- What each statement declares.
use Rattle.std.proofs.Common.{◌≡◌, ℕ, List, [], ◌∷◌, refl}
use Rattle.sqlite_value.specs.Order.{value_cmp}
use Rattle.sqlite_tied.specs.Compute.{everything}
use Rattle.sqlite_trees.specs.Sound.{fits_kind, is_free_name, begins, same_name}
use Rattle.sqlite_schema.specs.declared.schema.Table.{Table}
use Rattle.sqlite_schema.specs.declared.schema.Schema.{Schema}
use Rattle.sqlite_catalog.specs.Change.{created}
use Rattle.sqlite.specs.Listing.{understood}
use Rattle.desk_sql_layout.specs.Layout as d
use Rattle.desk_sql_write.specs.Declaring.{Declares, IsTaken, AreDeclared, schema_after}

-- everything that is unfolded to look at a row of sqlite_schema
unfoldable taking : Unit {0}
unfolding fits_kind is_free_name begins same_name value_cmp lib.Ieee.is_nan lib.Ieee.lt
taking = tt

-- a table as its text declares it, before it has a tree
abbrev bare : Table → Table
bare table = record table { tree = 0 }

abbrev s0 : Schema
s0 = d.no_schema

meta_is : Declares d.meta_text (bare d.meta_table) s0
unfolding understood everything
meta_is = record {
  is_create = refl;
  whole = refl;
  plain = (refl, refl);
  defines = refl;
  counts = refl;
}

meta_taken : IsTaken d.meta_text (bare d.meta_table) s0
unfolding understood everything taking
meta_taken = record {
  fits = (refl, refl);
  written = refl;
  named = refl;
  own = refl;
  unused = refl;
  alone = refl;
  small = refl;
  few = refl;
  plain = refl;
  formed = refl;
  listed = refl;
}

abbrev s1 : Schema
s1 = created s0 (bare d.meta_table)

catalogue_is : Declares d.catalogue_text (bare d.catalogue_table) s1
unfolding understood everything
catalogue_is = record {
  is_create = refl;
  whole = refl;
  plain = (refl, refl);
  defines = refl;
  counts = refl;
}

catalogue_taken : IsTaken d.catalogue_text (bare d.catalogue_table) s1
unfolding understood everything taking
catalogue_taken = record {
  fits = (refl, refl);
  written = refl;
  named = refl;
  own = refl;
  unused = refl;
  alone = refl;
  small = refl;
  few = refl;
  plain = refl;
  formed = refl;
  listed = refl;
}

abbrev s2 : Schema
s2 = created s1 (bare d.catalogue_table)

rule_is : Declares d.rule_text (bare d.rule_table) s2
unfolding understood everything
rule_is = record {
  is_create = refl;
  whole = refl;
  plain = (refl, refl);
  defines = refl;
  counts = refl;
}

rule_taken : IsTaken d.rule_text (bare d.rule_table) s2
unfolding understood everything taking
rule_taken = record {
  fits = (refl, refl);
  written = refl;
  named = refl;
  own = refl;
  unused = refl;
  alone = refl;
  small = refl;
  few = refl;
  plain = refl;
  formed = refl;
  listed = refl;
}

abbrev s3 : Schema
s3 = created s2 (bare d.rule_table)

document_is : Declares d.document_text (bare d.document_table) s3
unfolding understood everything
document_is = record {
  is_create = refl;
  whole = refl;
  plain = (refl, refl);
  defines = refl;
  counts = refl;
}

document_taken : IsTaken d.document_text (bare d.document_table) s3
unfolding understood everything taking
document_taken = record {
  fits = (refl, refl);
  written = refl;
  named = refl;
  own = refl;
  unused = refl;
  alone = refl;
  small = refl;
  few = refl;
  plain = refl;
  formed = refl;
  listed = refl;
}

abbrev s4 : Schema
s4 = created s3 (bare d.document_table)

package_is : Declares d.package_text (bare d.package_table) s4
unfolding understood everything
package_is = record {
  is_create = refl;
  whole = refl;
  plain = (refl, refl);
  defines = refl;
  counts = refl;
}

package_taken : IsTaken d.package_text (bare d.package_table) s4
unfolding understood everything taking
package_taken = record {
  fits = (refl, refl);
  written = refl;
  named = refl;
  own = refl;
  unused = refl;
  alone = refl;
  small = refl;
  few = refl;
  plain = refl;
  formed = refl;
  listed = refl;
}

abbrev s5 : Schema
s5 = created s4 (bare d.package_table)

extracted_is : Declares d.extracted_text (bare d.extracted_table) s5
unfolding understood everything
extracted_is = record {
  is_create = refl;
  whole = refl;
  plain = (refl, refl);
  defines = refl;
  counts = refl;
}

extracted_taken : IsTaken d.extracted_text (bare d.extracted_table) s5
unfolding understood everything taking
extracted_taken = record {
  fits = (refl, refl);
  written = refl;
  named = refl;
  own = refl;
  unused = refl;
  alone = refl;
  small = refl;
  few = refl;
  plain = refl;
  formed = refl;
  listed = refl;
}

abbrev s6 : Schema
s6 = created s5 (bare d.extracted_table)

conclusion_is : Declares d.conclusion_text (bare d.conclusion_table) s6
unfolding understood everything
conclusion_is = record {
  is_create = refl;
  whole = refl;
  plain = (refl, refl);
  defines = refl;
  counts = refl;
}

conclusion_taken : IsTaken d.conclusion_text (bare d.conclusion_table) s6
unfolding understood everything taking
conclusion_taken = record {
  fits = (refl, refl);
  written = refl;
  named = refl;
  own = refl;
  unused = refl;
  alone = refl;
  small = refl;
  few = refl;
  plain = refl;
  formed = refl;
  listed = refl;
}

abbrev s7 : Schema
s7 = created s6 (bare d.conclusion_table)

adoption_is : Declares d.adoption_text (bare d.adoption_table) s7
unfolding understood everything
adoption_is = record {
  is_create = refl;
  whole = refl;
  plain = (refl, refl);
  defines = refl;
  counts = refl;
}

adoption_taken : IsTaken d.adoption_text (bare d.adoption_table) s7
unfolding understood everything taking
adoption_taken = record {
  fits = (refl, refl);
  written = refl;
  named = refl;
  own = refl;
  unused = refl;
  alone = refl;
  small = refl;
  few = refl;
  plain = refl;
  formed = refl;
  listed = refl;
}

abbrev s8 : Schema
s8 = created s7 (bare d.adoption_table)

releases_is : Declares d.releases_text (bare d.releases_table) s8
unfolding understood everything
releases_is = record {
  is_create = refl;
  whole = refl;
  plain = (refl, refl);
  defines = refl;
  counts = refl;
}

releases_taken : IsTaken d.releases_text (bare d.releases_table) s8
unfolding understood everything taking
releases_taken = record {
  fits = (refl, refl);
  written = refl;
  named = refl;
  own = refl;
  unused = refl;
  alone = refl;
  small = refl;
  few = refl;
  plain = refl;
  formed = refl;
  listed = refl;
}

abbrev s9 : Schema
s9 = created s8 (bare d.releases_table)

attached_is : Declares d.attached_text (bare d.attached_table) s9
unfolding understood everything
attached_is = record {
  is_create = refl;
  whole = refl;
  plain = (refl, refl);
  defines = refl;
  counts = refl;
}

attached_taken : IsTaken d.attached_text (bare d.attached_table) s9
unfolding understood everything taking
attached_taken = record {
  fits = (refl, refl);
  written = refl;
  named = refl;
  own = refl;
  unused = refl;
  alone = refl;
  small = refl;
  few = refl;
  plain = refl;
  formed = refl;
  listed = refl;
}

abbrev s10 : Schema
s10 = created s9 (bare d.attached_table)

choice_is : Declares d.choice_text (bare d.choice_table) s10
unfolding understood everything
choice_is = record {
  is_create = refl;
  whole = refl;
  plain = (refl, refl);
  defines = refl;
  counts = refl;
}

choice_taken : IsTaken d.choice_text (bare d.choice_table) s10
unfolding understood everything taking
choice_taken = record {
  fits = (refl, refl);
  written = refl;
  named = refl;
  own = refl;
  unused = refl;
  alone = refl;
  small = refl;
  few = refl;
  plain = refl;
  formed = refl;
  listed = refl;
}

abbrev s11 : Schema
s11 = created s10 (bare d.choice_table)

frozen_is : Declares d.frozen_text (bare d.frozen_table) s11
unfolding understood everything
frozen_is = record {
  is_create = refl;
  whole = refl;
  plain = (refl, refl);
  defines = refl;
  counts = refl;
}

frozen_taken : IsTaken d.frozen_text (bare d.frozen_table) s11
unfolding understood everything taking
frozen_taken = record {
  fits = (refl, refl);
  written = refl;
  named = refl;
  own = refl;
  unused = refl;
  alone = refl;
  small = refl;
  few = refl;
  plain = refl;
  formed = refl;
  listed = refl;
}

abbrev s12 : Schema
s12 = created s11 (bare d.frozen_table)

duty_is : Declares d.duty_text (bare d.duty_table) s12
unfolding understood everything
duty_is = record {
  is_create = refl;
  whole = refl;
  plain = (refl, refl);
  defines = refl;
  counts = refl;
}

duty_taken : IsTaken d.duty_text (bare d.duty_table) s12
unfolding understood everything taking
duty_taken = record {
  fits = (refl, refl);
  written = refl;
  named = refl;
  own = refl;
  unused = refl;
  alone = refl;
  small = refl;
  few = refl;
  plain = refl;
  formed = refl;
  listed = refl;
}

abbrev s13 : Schema
s13 = created s12 (bare d.duty_table)

change_is : Declares d.change_text (bare d.change_table) s13
unfolding understood everything
change_is = record {
  is_create = refl;
  whole = refl;
  plain = (refl, refl);
  defines = refl;
  counts = refl;
}

change_taken : IsTaken d.change_text (bare d.change_table) s13
unfolding understood everything taking
change_taken = record {
  fits = (refl, refl);
  written = refl;
  named = refl;
  own = refl;
  unused = refl;
  alone = refl;
  small = refl;
  few = refl;
  plain = refl;
  formed = refl;
  listed = refl;
}

abbrev s14 : Schema
s14 = created s13 (bare d.change_table)

reading_is : Declares d.reading_text (bare d.reading_table) s14
unfolding understood everything
reading_is = record {
  is_create = refl;
  whole = refl;
  plain = (refl, refl);
  defines = refl;
  counts = refl;
}

reading_taken : IsTaken d.reading_text (bare d.reading_table) s14
unfolding understood everything taking
reading_taken = record {
  fits = (refl, refl);
  written = refl;
  named = refl;
  own = refl;
  unused = refl;
  alone = refl;
  small = refl;
  few = refl;
  plain = refl;
  formed = refl;
  listed = refl;
}

abbrev s15 : Schema
s15 = created s14 (bare d.reading_table)

waiver_is : Declares d.waiver_text (bare d.waiver_table) s15
unfolding understood everything
waiver_is = record {
  is_create = refl;
  whole = refl;
  plain = (refl, refl);
  defines = refl;
  counts = refl;
}

waiver_taken : IsTaken d.waiver_text (bare d.waiver_table) s15
unfolding understood everything taking
waiver_taken = record {
  fits = (refl, refl);
  written = refl;
  named = refl;
  own = refl;
  unused = refl;
  alone = refl;
  small = refl;
  few = refl;
  plain = refl;
  formed = refl;
  listed = refl;
}

abbrev s16 : Schema
s16 = created s15 (bare d.waiver_table)

abbrev pub declarations : List (List ℕ × Table)
declarations = (d.meta_text, bare d.meta_table) ∷ (d.catalogue_text, bare d.catalogue_table)
    ∷ (d.rule_text, bare d.rule_table) ∷ (d.document_text, bare d.document_table)
    ∷ (d.package_text, bare d.package_table) ∷ (d.extracted_text, bare d.extracted_table)
    ∷ (d.conclusion_text, bare d.conclusion_table) ∷ (d.adoption_text, bare d.adoption_table)
    ∷ (d.releases_text, bare d.releases_table) ∷ (d.attached_text, bare d.attached_table)
    ∷ (d.choice_text, bare d.choice_table) ∷ (d.frozen_text, bare d.frozen_table)
    ∷ (d.duty_text, bare d.duty_table) ∷ (d.change_text, bare d.change_table)
    ∷ (d.reading_text, bare d.reading_table) ∷ (d.waiver_text, bare d.waiver_table) ∷ []

pub all_are_declared : AreDeclared declarations d.no_schema
all_are_declared = (
  meta_is,
  (
    meta_taken,
    (
      catalogue_is,
      (
        catalogue_taken,
        (
          rule_is,
          (
            rule_taken,
            (
              document_is,
              (
                document_taken,
                (
                  package_is,
                  (
                    package_taken,
                    (
                      extracted_is,
                      (
                        extracted_taken,
                        (
                          conclusion_is,
                          (
                            conclusion_taken,
                            (
                              adoption_is,
                              (
                                adoption_taken,
                                (
                                  releases_is,
                                  (releases_taken, (attached_is, (attached_taken, (choice_is, (choice_taken, (frozen_is, (frozen_taken, (duty_is, (duty_taken, (change_is, (change_taken, (reading_is, (reading_taken, (waiver_is, (waiver_taken, tt))))))))))))))),
                                ),
                              ),
                            ),
                          ),
                        ),
                      ),
                    ),
                  ),
                ),
              ),
            ),
          ),
        ),
      ),
    ),
  ),
)

pub desk_schema_is : schema_after d.no_schema declarations ≡ d.desk_schema
desk_schema_is = refl
