use Rattle.std.proofs.Common.{List, sym, subst, refl, inr, ◌∙◌}
use Rattle.std.specs.Prelude.{map, ◌≢◌}
use Rattle.std.proofs.lemmas.Bool.{false≢true}
use Rattle.desk_expr.specs.declared.fault.ParseFault.TheVariants.{BadToken}
use Rattle.desk_tokens.specs.declared.token.Kind.TheVariants.{Bad}
use Rattle.desk_tokens.specs.Tokens.{Lexeme, lexeme}
use Rattle.desk_expr.proofs.ParseLemmas.{so_far_all, so_far_none, so_far_push, lexemes_push}
use Rattle.desk_expr.proofs.TermLemmas.{TermRead, TermStopsAfter, nothing_read, one_read, stopped}
use Rattle.desk_expr.proofs.TermLemmas.{stop_at_token, spelled_at_end, stopped_at_end}
use Rattle.desk_expr.proofs.TermLemmas.{spells_term_once, stop_spells_no_term, faults_spell_no_term}
use Rattle.desk_expr.proofs.WordLemmas.{word_of}
use Rattle.desk_expr.proofs.term_reader.parse_term_in.Goals as goal

pub step-requires : goal.step-requires
step-requires c = word_of c.loop-token.token-iterator.profile c.in-Some.token.kind
    c.in-Some.token.text.now c.in-Some.ensures.steps.0.kind

pub returns-then-text-gt-EXPRESSION_BYTES-clause-only : goal.returns-then-text-gt-EXPRESSION_BYTES-clause-only
returns-then-text-gt-EXPRESSION_BYTES-clause-only c = spells_term_once c.args.profile
    c.args.text.now

pub loop-token-init : goal.loop-token-init
loop-token-init c = record {
  read = nothing_read;
  so_far = so_far_none c.args.profile c.args.text.now c.into_iter-token-iterator.result
      c.tokens_in-token-items.result c.into_iter-token-iterator.ensures.into_iter_gives
      c.tokens_in-token-items.ensures.rest c.tokens_in-token-items.ensures.place
      c.tokens_in-token-items.ensures.profile;
}

pub loop-token-preserved : goal.loop-token-preserved
loop-token-preserved c = record {
  read = subst (λ l. TermRead l c.in-Ok.next)
      (sym (lexemes_push c.loop-token.yielded c.in-Some.token))
      (one_read (map lexeme c.loop-token.yielded) (lexeme c.in-Some.token) c.loop-token.state
      c.loop-token.invariant.read c.in-Ok.next c.in-Ok.ensures.ok);
  so_far = so_far_push c.args.profile c.args.text.now c.loop-token.yielded c.in-Some.token
      c.loop-token.token-iterator c.next.new.self c.loop-token.invariant.so_far
      c.in-Some.ensures.steps;
}

pub returns-then-is_bad : goal.returns-then-is_bad
returns-then-is_bad c =
    let profile = c.args.profile in
    let text = c.args.text.now in
    let fault = BadToken c.in-Some.token.start in
    let before = c.loop-token.invariant in
    let stop = stop_at_token profile text c.loop-token.yielded c.in-Some.token
    c.loop-token.token-iterator
    c.next.new.self fault c.if-text-gt-EXPRESSION_BYTES.false before.so_far c.in-Some.ensures.steps
    before.read.stands (inr (c.is_bad.ensures.0 c.if-is_bad.true, refl)) in
    record {
      spelled = tt;
      stop = stop;
      complete = stop_spells_no_term profile text fault stop;
      only = spells_term_once profile text;
    }

pub returns-in-Err : goal.returns-in-Err
returns-in-Err c =
    let profile = c.args.profile in
    let text = c.args.text.now in
    let token = c.in-Some.token in
    let before = c.loop-token.invariant in
    let front : List Lexeme = map lexeme c.loop-token.yielded in
    let good : token.kind ≢ Bad = λ h. false≢true (sym c.if-is_bad.false ∙ c.is_bad.ensures.1 h) in
    let stop = stop_at_token profile text c.loop-token.yielded token c.loop-token.token-iterator
    c.next.new.self
    c.at.result c.if-text-gt-EXPRESSION_BYTES.false before.so_far c.in-Some.ensures.steps
    before.read.stands
    (subst (TermStopsAfter front (lexeme token) c.loop-token.state before.read) (sym c.at.ensures)
    (stopped front (lexeme token) c.loop-token.state before.read good c.in-Err.halt
    c.in-Err.ensures.err)) in
    record {
      spelled = tt;
      stop = stop;
      complete = stop_spells_no_term profile text c.at.result stop;
      only = spells_term_once profile text;
    }

pub returns : goal.returns
returns c =
    let profile = c.args.profile in
    let text = c.args.text.now in
    let before = c.loop-token.invariant in
    let ts : List Lexeme = map lexeme c.loop-token.yielded in
    let short = c.if-text-gt-EXPRESSION_BYTES.false in
    let are = so_far_all profile text c.loop-token.yielded c.loop-token.token-iterator before.so_far
    c.in-None.ensures.steps.0 in
    let stop = stopped_at_end profile text ts c.loop-token.state short are before.read
    c.finish.result c.finish.ensures.err in
    record {
      spelled = spelled_at_end profile text ts c.loop-token.state short are before.read
          c.finish.result c.finish.ensures.ok;
      stop = stop;
      complete = faults_spell_no_term profile text c.finish.result stop;
      only = spells_term_once profile text;
    }
