-- What a file states itself, as it is read.
use Rattle.std.proofs.Common.{◌≡◌, ◌∙◌, ℕ, ◌+◌, ◌<◌, true, false, cond, List, ◌++◌, length, get_or}
use Rattle.std.proofs.Common.{drop, map, Option, Some, codes, sym, ap, subst}
use Rattle.std.specs.Prelude.{Result, IfOk}
use Rattle.std.proofs.lemmas.List.{drop_more}
use Rattle.std.specs.declared.alloc.AllocError.{AllocError}
use Rattle.desk_tree_annotations.specs.Tags.{tag_text}
use Rattle.desk_tree_annotations.specs.declared.info.Info.{Info}
use Rattle.desk_tree_annotations.specs.declared.tags.Tagged.{Tagged}
use Rattle.desk_tree_gather.specs.declared.fault.GatherFault.{GatherFault}
use Rattle.desk_tree_gather.specs.declared.files.SourceFile.{SourceFile}
use Rattle.desk_tree_infos.specs.Readers.{Reader, Stated}
use Rattle.desk_tree_gather.specs.Trees.{bytes_at}
use Rattle.desk_tree_gather.specs.Gathering.{holder, holder_by, bad_line, unless_bad, stated_in}
use Rattle.desk_tree_gather.specs.Shown.{Gives, stated_of}

module _ (r : Reader) (tags : List Tagged) (i : ℕ) (t : Tagged) (within : i < length tags) where
  stepped : bad_line r (map tag_text (drop i tags))
      ≡ cond (r.reading.is_expression (get_or tags i t).value.now)
      (bad_line r (map tag_text (drop (i + 1) tags))) (Some (get_or tags i t).line)
  stepped = ap (λ l. bad_line r (map tag_text l)) (drop_more tags i t within)

  pub bad_go : r.reading.is_expression (get_or tags i t).value.now ≡ true
      → bad_line r (map tag_text (drop (i + 1) tags)) ≡ bad_line r (map tag_text (drop i tags))
  bad_go is = sym (stepped ∙ ap (λ b. cond b (bad_line r (map tag_text (drop (i + 1) tags)))
      (Some (get_or tags i t).line)) is)

  pub bad_stop : r.reading.is_expression (get_or tags i t).value.now ≡ false
      → Some (get_or tags i t).line ≡ bad_line r (map tag_text (drop i tags))
  bad_stop is = sym (stepped ∙ ap (λ b. cond b (bad_line r (map tag_text (drop (i + 1) tags)))
      (Some (get_or tags i t).line)) is)

pub stated_along : (r : Reader) (file : SourceFile) (s : Stated) (line : Option ℕ)
    → r.stated file.bytes ≡ s → line ≡ bad_line r s.licences
    → stated_in r file ≡ unless_bad file.path s line
stated_along r file s line same is = ap (λ x. unless_bad file.path x (bad_line r x.licences)) same
    ∙ ap (unless_bad file.path s) (sym is)

-- the file beside it, or the file itself
pub gives_held : (r : Reader) (tree : List SourceFile) (file : SourceFile) (beside : List ℕ)
    (found : Option (List ℕ)) (x : Result (Result Info GatherFault) AllocError)
    → beside ≡ file.path ++ codes ".license" → found ≡ bytes_at tree beside
    → IfOk x (Gives (stated_in r (holder_by beside file found)) stated_of)
    → IfOk x (Gives (stated_in r (holder tree file)) stated_of)
gives_held r tree file beside found x named is h =
    subst (λ held. IfOk x (Gives (stated_in r held) stated_of))
    (ap (holder_by beside file) is ∙ ap (λ b. holder_by b file (bytes_at tree b)) named) h
