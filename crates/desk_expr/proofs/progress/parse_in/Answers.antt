use Rattle.std.proofs.Common.{List, sym, subst, length}
use Rattle.std.specs.Prelude.{map}
use Rattle.desk_tokens.specs.Tokens.{Lexeme, lexeme}
use Rattle.desk_expr.specs.Progress.{HasRead}
use Rattle.desk_expr.proofs.ParseLemmas.{spells_once, so_far_all, so_far_push, lexemes_push}
use Rattle.desk_expr.proofs.ParseLemmas.{stop_at_token}
use Rattle.desk_expr.proofs.ParseLemmas.{stop_spells_nothing, faults_spell_nothing, spelled_at_end}
use Rattle.desk_expr.proofs.ParseLemmas.{stopped_at_end, spelled_by, ended_by}
use Rattle.desk_expr.proofs.WordLemmas.{word_of}
use Rattle.desk_expr.proofs.progress.parse_in.Goals as goal

pub step-requires : goal.step-requires
step-requires c = word_of c.loop-token.token-iterator.profile c.in-Some.token.kind
    c.in-Some.token.text.now c.in-Some.ensures.steps.0.kind

pub returns-then-text-gt-EXPRESSION_BYTES-clause-only : goal.returns-then-text-gt-EXPRESSION_BYTES-clause-only
returns-then-text-gt-EXPRESSION_BYTES-clause-only c = spells_once c.args.profile c.args.text.now

pub loop-token-preserved : goal.loop-token-preserved
loop-token-preserved c = record {
  read = subst (λ l. HasRead l c.in-Ok.next)
      (sym (lexemes_push c.loop-token.yielded c.in-Some.token))
      (c.in-Ok.ensures.ok (map lexeme c.loop-token.yielded) c.loop-token.invariant.read);
  so_far = so_far_push c.args.profile c.args.text.now c.loop-token.yielded c.in-Some.token
      c.loop-token.token-iterator c.next.new.self c.loop-token.invariant.so_far
      c.in-Some.ensures.steps;
}

pub returns-in-Err : goal.returns-in-Err
returns-in-Err c =
    let profile = c.args.profile in
    let text = c.args.text.now in
    let before = c.loop-token.invariant in
    let stop = stop_at_token profile text c.loop-token.yielded c.in-Some.token
    c.loop-token.token-iterator
    c.next.new.self c.in-Err.fault c.if-text-gt-EXPRESSION_BYTES.false before.so_far
    c.in-Some.ensures.steps
    before.read.stands (c.in-Err.ensures.err (map lexeme c.loop-token.yielded) before.read) in
    record {
      spelled = tt;
      stop = stop;
      complete = stop_spells_nothing profile text c.in-Err.fault stop;
      only = spells_once profile text;
    }

-- the tokens of the whole text
pub returns : goal.returns
returns c =
    let profile = c.args.profile in
    let text = c.args.text.now in
    let read = c.loop-token.invariant.read in
    let short = c.if-text-gt-EXPRESSION_BYTES.false in
    let ts : List Lexeme = map lexeme c.loop-token.yielded in
    let are = so_far_all profile text c.loop-token.yielded c.loop-token.token-iterator
    c.loop-token.invariant.so_far c.in-None.ensures.steps.0 in
    let stop = stopped_at_end profile text ts short are read.stands c.finish.result
    (ended_by ts c.loop-token.progress (length text) c.finish.result c.finish.ensures.err read) in
    record {
      spelled =
          spelled_at_end profile text ts short are read.stands c.finish.result
          (spelled_by ts c.loop-token.progress c.finish.result c.finish.ensures.ok read);
      stop = stop;
      complete = faults_spell_nothing profile text c.finish.result stop;
      only = spells_once profile text;
    }
