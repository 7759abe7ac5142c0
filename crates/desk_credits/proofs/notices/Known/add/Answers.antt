use Rattle.std.proofs.Common.{◌≡◌, ◌∙◌, ap, ap₂, cond, string_bytes, sym, true}
use Rattle.std.specs.Str.{bytes_eq}
use Rattle.std.proofs.lemmas.Map.Text.{btree_set_updates_text}
use Rattle.desk_credits.specs.Notices.{is_known}
use Rattle.desk_credits.proofs.NoticeLemmas.{is_known-push}
use Rattle.desk_credits.proofs.notices.Known.add.Goals as goal

pub returns-clause-known : goal.returns-clause-known
returns-clause-known c text =
    let own : string_bytes c.in_ok-key.key ≡ c.args.notice.text = c.in_ok-key.ensures.ok
    ∙ c.as_str-text.ensures in
    btree_set_updates_text (string_bytes c.in_ok-key.key) c.args.self.now.texts c.insert.new.self true
    c.in_ok-insert.ensures.updates text
    ∙ ap₂ (λ own had. cond (bytes_eq own text) true had) own (c.requires text)
    ∙ sym (is_known-push c.args.self.now.notices.items c.args.notice text)
    ∙ ap (λ notices. is_known notices text) (sym c.in_ok-push.ensures.items)
