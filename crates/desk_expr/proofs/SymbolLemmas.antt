-- Which kind of token each symbol stands for.
use Rattle.std.proofs.Common.{◌≡◌, ℕ, List, refl}
use Rattle.desk_tokens.specs.declared.token.Kind.{Kind}
use Rattle.desk_tokens.specs.declared.token.Kind.TheVariants.{Opening, Closing, And, Or, With}
use Rattle.desk_expr.specs.Grammar.{opening, closing, and_word, or_word, with_word}
use Rattle.desk_expr.specs.Spelling.{symbol}

pub is_and : (k : Kind) (w : List ℕ) → symbol k w ≡ and_word → k ≡ And
is_and And w h = refl
is_and _ w h = absurd (cc)

pub is_or : (k : Kind) (w : List ℕ) → symbol k w ≡ or_word → k ≡ Or
is_or Or w h = refl
is_or _ w h = absurd (cc)

pub is_closing : (k : Kind) (w : List ℕ) → symbol k w ≡ closing → k ≡ Closing
is_closing Closing w h = refl
is_closing _ w h = absurd (cc)

pub is_opening : (k : Kind) (w : List ℕ) → symbol k w ≡ opening → k ≡ Opening
is_opening Opening w h = refl
is_opening _ w h = absurd (cc)

pub is_with : (k : Kind) (w : List ℕ) → symbol k w ≡ with_word → k ≡ With
is_with With w h = refl
is_with _ w h = absurd (cc)
