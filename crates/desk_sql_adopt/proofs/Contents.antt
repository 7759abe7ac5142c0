-- What a database is taken for.
use Rattle.std.proofs.Common.{◌≡◌, ◌≢◌, ℕ, ℤ, pos, negsuc, Bool, true, false, Option, Some, None}
use Rattle.std.proofs.Common.{inl, inr, refl, sym, ap, subst, arith}
use Rattle.std.specs.Prelude.{◌==◌}
use Rattle.std.proofs.lemmas.Bool.Decides.{nat_tests}
use Rattle.std.proofs.lemmas.Int.{ints}
use Rattle.sqlite.specs.State.{State}
use Rattle.desk_sql_layout.specs.Desk.{HasDesk}
use Rattle.desk_sql_adopt.specs.declared.version.Content.{Content}
use Rattle.desk_sql_adopt.specs.declared.version.Content.TheVariants.{Desk, OtherVersion, Other}
use Rattle.desk_sql_adopt.specs.Version.{IsContent, TellsNoOther, TellsVersion, has_version}

module _ (s : State) (has : has_version s.now.schema ≡ true) (declared : Bool)
    (all : declared ≡ true → HasDesk s.now.schema)
    (told : HasDesk s.now.schema → declared ≡ true) (content : Content) where
  right_version : (b : Bool) → declared ≡ b → (declared ≡ true → content ≡ Desk)
      → (declared ≡ false → content ≡ Other) → TellsNoOther s → IsContent s content
  right_version true is desk other tells = subst (IsContent s) (sym (desk is)) (tells, all is)
  right_version false is desk other tells = subst (IsContent s) (sym (other is))
      (inr (tells, λ same. let yes = told same in absurd (cc)))

  other_version : (n : ℤ) → n ≢ pos 3 → content ≡ OtherVersion n → TellsVersion (Some n) s
      → IsContent s content
  other_version n differs is tells = subst (IsContent s) (sym is) (tells, differs, has)

  numbered : (k : ℕ) (b : Bool) → (k == 3) ≡ b → (declared ≡ true → k ≡ 3 → content ≡ Desk)
      → (declared ≡ false → k ≡ 3 → content ≡ Other)
      → (pos k ≢ pos 3 → content ≡ OtherVersion (pos k)) → TellsVersion (Some (pos k)) s
      → IsContent s content
  numbered k true is desk undeclared other tells =
      let three : k ≡ 3 = grind (arith, nat_tests) in
      right_version declared refl (λ d. desk d three) (λ d. undeclared d three)
      (inl (subst (λ n. TellsVersion (Some (pos n)) s) three tells))
  numbered k false is desk undeclared other tells =
      let differs : pos k ≢ pos 3 = λ same. let no : k ≡ 3 = grind (arith, ints, same) in
      absurd (grind (arith, nat_tests)) in
      other_version (pos k) differs (other differs) tells

  pub content_is : (version : Option ℤ)
      → (version ≡ Some (pos 3) → declared ≡ true → content ≡ Desk)
      → (version ≡ Some (pos 3) → declared ≡ false → content ≡ Other)
      → (version ≡ None → declared ≡ true → content ≡ Desk)
      → (version ≡ None → declared ≡ false → content ≡ Other)
      → ((n : ℤ) → version ≡ Some n → n ≢ pos 3 → content ≡ OtherVersion n) → TellsVersion version s
      → IsContent s content
  content_is None desk undeclared unnamed none other tells = right_version declared refl
      (λ d. unnamed refl d) (λ d. none refl d) (inr tells)
  content_is (Some (pos k)) desk undeclared unnamed none other tells =
      numbered k (k == 3) refl (λ d three. desk (ap (λ n. Some (pos n)) three) d)
      (λ d three. undeclared (ap (λ n. Some (pos n)) three) d)
      (λ differs. other (pos k) refl differs) tells
  content_is (Some (negsuc k)) desk undeclared unnamed none other tells =
      let differs : negsuc k ≢ pos 3 = λ same. absurd (cc) in
      other_version (negsuc k) differs (other (negsuc k) refl differs) tells
