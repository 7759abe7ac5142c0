use Rattle.std.proofs.Common.{◌∙◌, ◌++◌, [], ◌∷◌, Bool, ap, codes}
use Rattle.std.proofs.lemmas.Result.{on_ok_weaker}
use Rattle.desk_base.specs.Borrowed.{texts}
use Rattle.serde_json.specs.View.{view}
use Rattle.desk_spdx_files.specs.Files.{document_id}
use Rattle.desk_spdx_files.specs.Texts.{ids_of, items_of, listed_in, texts_by}
use Rattle.desk_spdx_files.specs.Files.{coded_files, has_codes, needed_ends}
use Rattle.desk_spdx_files.proofs.Added.{before}
use Rattle.desk_spdx_files.proofs.Added.{pushed}
use Rattle.desk_spdx_files.proofs.idle.add_needed.Goals as goal

pub returns : goal.returns
returns c =
    let d = view c.args.value.now in
    let packages = ids_of (codes "packages") (codes "SPDXID") d in
    let snippets = ids_of (codes "snippets") (codes "SPDXID") d in
    let licences = ids_of (codes "hasExtractedLicensingInfos") (codes "licenseId") d in
    let described = listed_in (codes "documentDescribes") d in
    let ends = λ (coded : Bool). texts_by (needed_ends coded) (items_of (codes "relationships") d) in
    let files = λ (coded : Bool). coded_files coded (items_of (codes "packages") d) in
    let tied = ends (has_codes d) in
    let listed = files (has_codes d) in
    on_ok_weaker c.add_coded.result (λ told.
    before (texts c.args.found.now.items) ([] ∷ [])
    (document_id ∷ (packages ++ (snippets ++ (licences ++ (described ++ (tied ++ listed))))))
    (pushed c.args.found.now.items c.push.new.self.items _ c.in_ok-push.ensures.items)
    (before (texts c.push.new.self.items) (document_id ∷ [])
    (packages ++ (snippets ++ (licences ++ (described ++ (tied ++ listed)))))
    (pushed c.push.new.self.items c.push-2.new.self.items _ c.in_ok-push-2.ensures.items)
    (before (texts c.push-2.new.self.items) packages
    (snippets ++ (licences ++ (described ++ (tied ++ listed)))) c.in_ok-add_ids_of.ensures
    (before (texts c.add_ids_of.new.found.items) snippets
    (licences ++ (described ++ (tied ++ listed))) c.in_ok-add_ids_of-2.ensures
    (before (texts c.add_ids_of-2.new.found.items) licences (described ++ (tied ++ listed))
    c.in_ok-add_ids_of-3.ensures
    (before (texts c.add_ids_of-3.new.found.items) described (tied ++ listed)
    c.in_ok-add_listed_in.ensures
    (before (texts c.add_listed_in.new.found.items) tied listed
    (c.in_ok-add_tied.ensures
    ∙ ap (λ (coded : Bool). texts c.add_listed_in.new.found.items ++ ends coded) c.has_codes-coded.ensures)
    (told
    ∙ ap (λ (coded : Bool). texts c.add_tied.new.found.items ++ files coded) c.has_codes-coded.ensures))))))))
    c.add_coded.ensures
