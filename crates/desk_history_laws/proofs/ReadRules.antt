-- The rules that the text of a catalogue is read into.
use Rattle.std.proofs.Common.{◌≡◌, ℕ, Bool, true, false, List, [], ◌∷◌, Option, refl, subst}
use Rattle.std.proofs.Common.{inl, inr}
use Rattle.std.specs.Prelude.{Ok, Err, if◌then◌else◌, not}
use Rattle.std.specs.List.{list_all}
use Rattle.std.specs.Option.{ok_or}
use Rattle.std.specs.Ordering.{match_ordering}
use Rattle.std.specs.declared.cmp.Ordering.TheVariants.{Less, Equal, Greater}
use Rattle.toml.specs.Data.{Data}
use Rattle.desk_base.specs.Results.{then_read}
use Rattle.desk_base.specs.TextSets.{is_among}
use Rattle.desk_catalogue.proofs.OrderLaws.{rules_hold, same_read, then_by}
use Rattle.desk_catalogue.specs.Kept.{put_rule, stand_once}
use Rattle.desk_catalogue.specs.Reading.{rule_at, rule_of, rules_of, RuleTexts, rule_written}
use Rattle.desk_catalogue.specs.Terms.{licence_of}
use Rattle.desk_model.specs.Keys.{rule_order}
use Rattle.desk_model.specs.Lists.{IsIn}
use Rattle.desk_model.specs.Texts.{sorted_set}
use Rattle.desk_model.specs.declared.reading.Rule.{Rule}
use Rattle.desk_model.specs.declared.refusal.CatalogueFault.{CatalogueFault}
use Rattle.desk_model.specs.declared.refusal.CatalogueFault.TheVariants.{BadTerm, Twice}
use Rattle.desk_model.specs.declared.refusal.CatalogueFault.TheVariants.{UnknownDuty, UnknownForm}
use Rattle.desk_model.specs.declared.refusal.CataloguePart.TheVariants as part
use Rattle.desk_texts.specs.Rising.{Each}

-- what was read of a rule: a term that is a licence, and duties among those of the catalogue
pub record IsReadRule (terms : List ℕ → Option (List ℕ)) (duties : List (List ℕ)) (index : ℕ)
    (rule : Rule) : Type 0 where
  pub texts : RuleTexts
  pub term : List ℕ
  pub licence : ok_or (licence_of terms texts.term) (BadTerm part.Rule index) ≡ Ok term
  pub among : list_all (is_among duties) texts.duties ≡ true
  pub is : record {
    term = term;
    form = texts.form;
    spelled = texts.term;
    codes = sorted_set texts.duties;
  } ≡ rule

faultless : (a b c : Bool) (f g h : CatalogueFault) (x rule : Rule)
    → (if not a then Err f else (if not b then Err g else (if c then Err h else Ok x))) ≡ Ok rule
    → (b ≡ true) × (x ≡ rule)
faultless false b c f g h x rule e = cc
faultless true false c f g h x rule e = cc
faultless true true true f g h x rule e = cc
faultless true true false f g h x rule e = (refl, same_read x rule e)

read_rule : (terms : List ℕ → Option (List ℕ)) (forms duties : List (List ℕ)) (index : ℕ) (d : Data)
    (rule : Rule) → rule_at terms forms duties index d ≡ Ok rule
    → IsReadRule terms duties index rule
read_rule terms forms duties index d rule e =
    let written = then_by (rule_written index d)
    (λ texts. then_read (ok_or (licence_of terms texts.term) (BadTerm part.Rule index))
    (rule_of forms duties index texts)) rule e in
    let texts : RuleTexts = written.0 in
    let term = then_by (ok_or (licence_of terms texts.term) (BadTerm part.Rule index))
    (rule_of forms duties index texts) rule written.2 in
    let read : Rule = record {
      term = term.0;
      form = texts.form;
      spelled = texts.term;
      codes = sorted_set texts.duties;
    } in
    let is = faultless (is_among forms texts.form) (list_all (is_among duties) texts.duties)
    (not (stand_once texts.duties)) (UnknownForm part.Rule index) (UnknownDuty part.Rule index)
    (Twice part.Rule index) read rule term.2 in
    record { texts = texts; term = term.0; licence = term.1; among = is.0; is = is.1 }

put_keeps : (P : Rule → Type 0) (x : Rule) (rs : List Rule) → P x → Each P rs
    → Each P (put_rule x rs)
put_keeps P x [] p all = (p, tt)
put_keeps P x (r ∷ rs) p all =
    elim (rule_order x r) as (λ o. Each P
    (match_ordering o (x ∷ r ∷ rs) (x ∷ rs) (r ∷ put_rule x rs))) [
      | Less ↦ (p, all)
      | Equal ↦ (p, all.1)
      | Greater ↦ (all.0, put_keeps P x rs p all.1)
    ]

-- what is true of each rule that is read is true of each rule of the catalogue
pub each_rule : (P : Rule → Type 0) (terms : List ℕ → Option (List ℕ))
    (forms duties : List (List ℕ)) (listed : Option Data) (rules : List Rule)
    → ((index : ℕ) (rule : Rule) → IsReadRule terms duties index rule → P rule)
    → rules_of terms forms duties listed ≡ Ok rules → Each P rules
each_rule P terms forms duties listed rules holds =
    rules_hold (Each P) terms forms duties listed rules tt
    (λ index d rule rs is. put_keeps P rule rs
    (holds index rule (read_rule terms forms duties index d rule is)))

pub each_in : {A : Type 0} (P : A → Type 0) (x : A) (xs : List A) → IsIn x xs → Each P xs → P x
each_in P x [] m each = absurd m
each_in P x (y ∷ ys) m each = elim m
    [ inl same ↦ subst P same each.0 | inr n ↦ each_in P x ys n each.1 ]
