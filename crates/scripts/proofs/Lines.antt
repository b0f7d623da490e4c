-- The words of a line, taken from its prefix.
use Rattle.std.proofs.Common.{◌≡◌, ℕ, ◌+◌, ◌≤◌, nat_lt, false, List, [], ◌∷◌, ◌++◌, length, codes, Option, Some, None, Err, refl, sym, ap, ◌∙◌, arith}
use Rattle.std.proofs.lemmas.Bool.Decides.{nat_tests}
use Rattle.lexemes.specs.Words.{words_of}
use Rattle.lexemes.specs.declared.cause.Cause.TheVariants.{Words}
use Rattle.lexemes.proofs.Joined.{parts_of-more}
use Rattle.schedule_text.specs.Events.{event_of, line_limit, words_event}
use Rattle.schedule_text.proofs.Parts.{parts_of_some}
use Rattle.scripts.specs.Events.{at_of, in_ensemble, keyword_event, own_event, root_event_of, words_root_event}
use Rattle.scripts.specs.Keywords.{keyword_of, lone_cause}
use Rattle.scripts.specs.declared.keyword.Keyword.{Keyword}
use Rattle.scripts.specs.declared.keyword.Keyword.TheVariants as line

not_long : (n : ℕ) → n ≤ line_limit → nat_lt line_limit n ≡ false
not_long n h = grind (arith, nat_tests)

-- a line that is not too long is read by its words
pub by_words : (peers : ℕ) (text : List ℕ) → length text ≤ line_limit → event_of peers text ≡ words_event peers (words_of text)
by_words peers text h = rw (not_long (length text) h) refl

-- ---- behind `at`

pub at_words : (peers : ℕ) (words : List (List ℕ)) (word text : List ℕ) → words ≡ word ∷ words_of text → at_of peers words ≡ in_ensemble word (own_event peers (words_of text))
at_words peers words word text e =
    let some = parts_of_some 32 text in
    ap (at_of peers) (e ∙ ap (λ (ws : List (List ℕ)). word ∷ ws) some.2) ∙ sym (ap (λ (ws : List (List ℕ)). in_ensemble word (own_event peers ws)) some.2)

-- ---- a call

pub call_words : (text : List ℕ) → words_of (codes "call " ++ text) ≡ codes "call" ∷ words_of text
call_words text = parts_of-more 32 (codes "call") text refl

-- ---- the keyword

pub lone_word : (peers : ℕ) (words : List (List ℕ)) (word : List ℕ) (keyword : Option Keyword) → words ≡ word ∷ [] → keyword_of word ≡ keyword → words_root_event peers words ≡ Err (lone_cause keyword)
lone_word peers words word keyword e h = ap (words_root_event peers) e ∙ by keyword h
  where
    -- no keyword stands alone
    nothing : (k : Keyword) → keyword_event peers k [] ≡ Err Words
    nothing line.At = refl
    nothing line.Open = refl
    nothing line.Look = refl
    nothing line.Route = refl

    by : (keyword : Option Keyword) → keyword_of word ≡ keyword → words_root_event peers (word ∷ []) ≡ Err (lone_cause keyword)
    by None h = rw h refl
    by (Some k) h = rw h (nothing k)

-- a line of one word, which is not too long
pub lone_line : (peers : ℕ) (text : List ℕ) → length text ≤ line_limit → words_of text ≡ text ∷ [] → root_event_of peers text ≡ Err (lone_cause (keyword_of text))
lone_line peers text short lone = rw (not_long (length text) short) (lone_word peers (words_of text) text (keyword_of text) lone refl)
