-- Rows that go in besides those that are there.
use Rattle.std.proofs.Common.{◌≡◌, ℕ, suc, Bool, true, false, List, [], ◌∷◌, take, drop, sym, refl, ap, ◌∙◌}
use Rattle.std.specs.Prelude.{filter, ◌||◌, not, Vec}
use Rattle.std.specs.List.{list_all, list_any}
use Rattle.std.specs.declared.alloc.Global.{Global}
use Rattle.std.proofs.lemmas.List.Folds.{list_any-append}
use Rattle.desk_sorted.specs.Blocks.{is_between, rows_in, HasRoom}
use Rattle.desk_sorted.proofs.Blocking.{rows_split}
use Rattle.desk_base.proofs.Bools.{or_left, or_right}

-- the rows without those that pass a test, if none does
pub all_left : {A : Type 0} (test : A → Bool) (xs : List A) → list_any test xs ≡ false
    → filter (λ x. not (test x)) xs ≡ filter (λ x. true) xs
all_left test [] e = refl
all_left test (x ∷ xs) e =
    rw (or_left (test x) (list_any test xs) e)
    (ap (λ l. x ∷ l) (all_left test xs (or_right (test x) (list_any test xs) e)))

any_split : {R : Type 0} (test : R → Bool) (n : ℕ) (bs : List (Vec R Global))
    → list_any test (rows_in bs) ≡ false
    → (list_any test (rows_in (take n bs)) || list_any test (rows_in (drop n bs))) ≡ false
any_split test n bs e =
    sym (list_any-append test (rows_in (take n bs)) (rows_in (drop n bs)))
    ∙ (ap (list_any test) (rows_split n bs) ∙ e)

pub room_beside : {R : Type 0} (below : R → R → Bool) (test : R → Bool) (more : List R)
    (bs : List (Vec R Global)) (at : ℕ) → list_any test (rows_in bs) ≡ false
    → HasRoom below (λ x. not (test x)) more bs at → HasRoom below (λ x. true) more bs at
room_beside below test more bs at none room =
    let front = all_left test (rows_in (take at bs))
    (or_left (list_any test (rows_in (take at bs))) (list_any test (rows_in (drop at bs)))
    (any_split test at bs none)) in
    let back = all_left test (rows_in (drop (suc at) bs))
    (or_right (list_any test (rows_in (take (suc at) bs)))
    (list_any test (rows_in (drop (suc at) bs))) (any_split test (suc at) bs none)) in
    record {
      within = room.within;
      room = room.room;
      fits = room.fits;
      place =
          ap (λ xs. list_all (is_between below xs (filter (λ x. true) (rows_in (drop (suc at) bs))))
          more) (sym front)
          ∙ (ap (λ xs. list_all (is_between below
          (filter (λ x. not (test x)) (rows_in (take at bs))) xs) more) (sym back)
          ∙ room.place);
    }
