-- A list of files, of which those that pass a test are read one after another.
use Rattle.std.proofs.Common.{◌≡◌, ◌∙◌, ℕ, ◌+◌, ◌<◌, ◌≤◌, Bool, true, false, cond, List, [], ◌∷◌}
use Rattle.std.proofs.Common.{◌++◌, length, get_or, drop, ap}
use Rattle.std.specs.Prelude.{Ok, Err}
use Rattle.std.proofs.lemmas.List.{append-nil, drop_more, drop_all}
use Rattle.desk_tree_gather.specs.declared.fault.GatherFault.{GatherFault}
use Rattle.desk_tree_gather.specs.declared.files.File.{File}
use Rattle.desk_tree_gather.specs.declared.files.SourceFile.{SourceFile}
use Rattle.desk_tree_gather.specs.Trees.{Read, each}
use Rattle.desk_tree_gather.specs.Shown.{file_of, files_of}
use Rattle.desk_base.specs.Results.{followed}
use Rattle.desk_base.proofs.Results.{onto, onto-followed}

module _ {A : Type 0} (test : SourceFile → Bool) (read : SourceFile → Read A) (done : List A)
    (fs : List File) (i : ℕ) (f : File) (within : i < length fs) where
  stepped : onto done (each test read (files_of (drop i fs)))
      ≡ onto done (cond (test (file_of (get_or fs i f)))
      (followed (read (file_of (get_or fs i f))) (each test read (files_of (drop (i + 1) fs))))
      (each test read (files_of (drop (i + 1) fs))))
  stepped = ap (λ l. onto done (each test read (files_of l))) (drop_more fs i f within)

  -- a file that is skipped
  pub onto-skip : test (file_of (get_or fs i f)) ≡ false
      → onto done (each test read (files_of (drop i fs)))
      ≡ onto done (each test read (files_of (drop (i + 1) fs)))
  onto-skip fails =
      stepped ∙ ap (λ b. onto done (cond b
      (followed (read (file_of (get_or fs i f))) (each test read (files_of (drop (i + 1) fs))))
      (each test read (files_of (drop (i + 1) fs))))) fails

  -- one that is read
  pub onto-item : (x : A) → test (file_of (get_or fs i f)) ≡ true
      → read (file_of (get_or fs i f)) ≡ Ok x
      → onto done (each test read (files_of (drop i fs)))
      ≡ onto (done ++ x ∷ []) (each test read (files_of (drop (i + 1) fs)))
  onto-item x passes is =
      stepped ∙ ap (λ b. onto done (cond b
      (followed (read (file_of (get_or fs i f))) (each test read (files_of (drop (i + 1) fs))))
      (each test read (files_of (drop (i + 1) fs))))) passes
      ∙ ap (λ r. onto done (followed r (each test read (files_of (drop (i + 1) fs))))) is
      ∙ onto-followed done x (each test read (files_of (drop (i + 1) fs)))

  -- a fault
  pub onto-fault : (fault : GatherFault) → test (file_of (get_or fs i f)) ≡ true
      → read (file_of (get_or fs i f)) ≡ Err fault
      → onto done (each test read (files_of (drop i fs))) ≡ Err fault
  onto-fault fault passes is =
      stepped ∙ ap (λ b. onto done (cond b
      (followed (read (file_of (get_or fs i f))) (each test read (files_of (drop (i + 1) fs))))
      (each test read (files_of (drop (i + 1) fs))))) passes
      ∙ ap (λ r. onto done (followed r (each test read (files_of (drop (i + 1) fs))))) is

-- the end
pub onto-end : {A : Type 0} (test : SourceFile → Bool) (read : SourceFile → Read A) (done : List A)
    (fs : List File) (i : ℕ) → length fs ≤ i
    → onto done (each test read (files_of (drop i fs))) ≡ Ok done
onto-end test read done fs i past = ap (λ l. onto done (each test read (files_of l)))
    (drop_all i fs past) ∙ ap Ok (append-nil done)
