-- The walk of `clap` over words that do not begin with `-`: the first one is the verb's value, and
-- each one behind it is one more value of the rest.
use Rattle.std.proofs.Common.{◌≡◌, ◌∙◌, ◌&&◌, Bool, true, false, refl, ap, List, [], ◌∷◌, ◌++◌, codes, Some, None, append_assoc}
use Rattle.std.proofs.lemmas.Bool.{or_parts, and_from}
use Rattle.std.specs.List.{fold, list_all}
use Rattle.std.specs.Prelude.{slice_get}
use Rattle.clap.specs.Walk.{Row, Rule, Text, Walk, all_of, finished, first_of, idle, nothing_held, positional, rows_of, walk_from, walked}
use Rattle.clap.specs.Simple.{App, Shape, built, matches_of, new_app, new_rule, on_top, with_rule}
use Rattle.clap.specs.Takes.{default_passes, is_valid, level_passes, settle_passes, takes, turn_passes, walk_passes}
use Rattle.clap.specs.Words.{found_of}
use Rattle.clap.specs.declared.builder.action.ArgAction.TheVariants.{Append}
use Rattle.clap.specs.declared.builder.value_parser.Reading.TheVariants.{AsWritten}
use Rattle.clap.specs.declared.parser.matches.ArgMatches.{ArgMatches}
use Rattle.clap.specs.declared.parser.matches.ValueSource.TheVariants.{CommandLine}
use Rattle.clap.proofs.OnLiterals.{clap_on_literals}
use Rattle.clap.proofs.TakesLemmas.{leaf_takes}
use Rattle.clap.proofs.WalkLemmas.{first_value-rows, raw_values-rows}
use Rattle.command_line.specs.Split.{Splits, has_option, is_option, rest_of}

-- ---- the command

abbrev pub verb : Rule
verb = new_rule (codes "verb")

abbrev pub rest : Rule
rest = record (new_rule (codes "rest")) { action = Some Append }

abbrev pub no_rules : App
no_rules = on_top (λ s. record s { no_binary_name = true; disable_help_flag = true }) (new_app (codes "ensemble"))

abbrev pub command : App
command = with_rule (with_rule no_rules verb) rest

abbrev top : Shape
top = (built command).top

-- ---- where the walk stands between two words

abbrev row : Text → List Text → Row
row id values = record { id = id; values = values; count = None; source = Some CommandLine; reading = AsWritten }

abbrev rest_rows : List Text → List Row
rest_rows [] = []
rest_rows (w ∷ ws) = row (codes "rest") (w ∷ ws) ∷ []

abbrev rows_for : List Text → List Row
rows_for [] = []
rows_for (v ∷ ws) = row (codes "verb") (v ∷ []) ∷ rest_rows ws

abbrev at_start : Walk
at_start = walk_from nothing_held

abbrev after_verb : Text → Walk
after_verb v = record {
  held = record { rows = []; pending = Some (codes "verb", v ∷ []); skip = 0 };
  waiting = idle;
  position = 2;
  is_trailing = false;
  stopped = None;
}

-- after the verb v, the words of `before`, and w
abbrev after_rest : Text → List Text → Text → Walk
after_rest v before w = record {
  held = record { rows = rows_for (v ∷ before); pending = Some (codes "rest", w ∷ []); skip = 0 };
  waiting = positional;
  position = 2;
  is_trailing = false;
  stopped = None;
}

-- ---- one word

verb_walked : (v : Text) → is_option v ≡ false → walked top.rules [] at_start v ≡ after_verb v
unfolding clap_on_literals
verb_walked [] plain = refl
verb_walked (b ∷ bs) plain = rw (plain, plain) refl

verb_turn : (v : Text) → is_option v ≡ false → turn_passes top [] at_start v ≡ true
verb_turn [] plain = refl
verb_turn (b ∷ bs) plain = rw (plain, plain) refl

first_walked : (v w : Text) → is_option w ≡ false → walked top.rules [] (after_verb v) w ≡ after_rest v [] w
unfolding clap_on_literals
first_walked v [] plain = refl
first_walked v (b ∷ bs) plain = rw (plain, plain) refl

first_turn : (v w : Text) → is_option w ≡ false → turn_passes top [] (after_verb v) w ≡ true
first_turn v [] plain = refl
first_turn v (b ∷ bs) plain = rw (plain, plain) refl

more_walked : (v : Text) (before : List Text) (w x : Text) → is_option x ≡ false
    → walked top.rules [] (after_rest v before w) x ≡ after_rest v (before ++ w ∷ []) x
unfolding clap_on_literals
more_walked v [] w [] plain = refl
more_walked v [] w (b ∷ bs) plain = rw (plain, plain) refl
more_walked v (d ∷ ds) w [] plain = refl
more_walked v (d ∷ ds) w (b ∷ bs) plain = rw (plain, plain) refl

more_turn : (v : Text) (before : List Text) (w x : Text) → is_option x ≡ false → turn_passes top [] (after_rest v before w) x ≡ true
more_turn v before w [] plain = refl
more_turn v before w (b ∷ bs) plain = rw (plain, plain) refl

-- ---- all the words

-- the walk passes the words, and then it stands behind the verb v and the words of `all`
record WalksTo (from : Walk) (words : List Text) (v : Text) (all : List Text) : Type 0 where
  pub before : List Text
  pub last : Text
  pub passes : walk_passes top [] from words ≡ true
  pub end : fold (walked top.rules []) from words ≡ after_rest v before last
  pub whole : before ++ last ∷ [] ≡ all

walks_on : (from next : Walk) (x v : Text) (xs all : List Text) → turn_passes top [] from x ≡ true → walked top.rules [] from x ≡ next
    → WalksTo next xs v all → WalksTo from (x ∷ xs) v all
unfolding walk_passes
walks_on from next x v xs all turn is more = record {
  before = more.before;
  last = more.last;
  passes = and_from _ _ turn (ap (λ (k : Walk). walk_passes top [] k xs) is ∙ more.passes);
  end = ap (λ (k : Walk). fold (walked top.rules []) k xs) is ∙ more.end;
  whole = more.whole;
}

walks_rest : (v : Text) (before : List Text) (w : Text) (words : List Text) → has_option words ≡ false
    → WalksTo (after_rest v before w) words v (before ++ w ∷ words)
unfolding walk_passes
walks_rest v before w [] plain = record { before = before; last = w; passes = refl; end = refl; whole = refl }
walks_rest v before w (x ∷ xs) plain =
    let p = or_parts (is_option x) (has_option xs) plain in
    let later = walks_rest v (before ++ w ∷ []) x xs p.1 in
    walks_on (after_rest v before w) (after_rest v (before ++ w ∷ []) x) x v xs (before ++ w ∷ x ∷ xs) (more_turn v before w x p.0) (more_walked v before w x p.0)
    (record {
      before = later.before;
      last = later.last;
      passes = later.passes;
      end = later.end;
      whole = later.whole ∙ append_assoc before (w ∷ []) (x ∷ xs);
    })

walks : (v w : Text) (ws : List Text) → has_option (v ∷ w ∷ ws) ≡ false → WalksTo at_start (v ∷ w ∷ ws) v (w ∷ ws)
walks v w ws plain =
    let p = or_parts (is_option v) (has_option (w ∷ ws)) plain in
    let q = or_parts (is_option w) (has_option ws) p.1 in
    walks_on at_start (after_verb v) v v (w ∷ ws) (w ∷ ws) (verb_turn v p.0) (verb_walked v p.0)
    (walks_on (after_verb v) (after_rest v [] w) w v ws (w ∷ ws) (first_turn v w q.0) (first_walked v w q.0) (walks_rest v [] w ws q.1))

-- ---- after the words

finished_rest : (v : Text) (before : List Text) (last : Text) → finished top.rules (after_rest v before last).held ≡ rows_for (v ∷ before ++ last ∷ [])
finished_rest v [] last = refl
finished_rest v (d ∷ ds) last = refl

matches_are : (words : List Text) → has_option words ≡ false → matches_of command words ≡ rows_for words
matches_are [] plain = refl
matches_are (v ∷ []) plain = ap (λ (k : Walk). finished top.rules k.held) (verb_walked v (or_parts (is_option v) false plain).0)
matches_are (v ∷ w ∷ ws) plain =
    let end = walks v w ws plain in
    ap (λ (k : Walk). finished top.rules k.held) end.end ∙ finished_rest v end.before end.last ∙ ap (λ (all : List Text). rows_for (v ∷ all)) end.whole

abbrev passes_after : Walk → Bool
passes_after k = settle_passes top.rules top.args_override_self k.held && (list_all default_passes top.rules && is_valid top (finished top.rules k.held) false)

rest_passes : (v : Text) (before : List Text) (last : Text) → passes_after (after_rest v before last) ≡ true
rest_passes v before last = refl

level_passed : (words : List Text) → has_option words ≡ false → level_passes top [] nothing_held words false ≡ true
unfolding walk_passes
level_passed [] plain = refl
level_passed (v ∷ []) plain =
    let p = (or_parts (is_option v) false plain).0 in
    and_from _ _ (and_from _ _ (verb_turn v p) refl) (ap passes_after (verb_walked v p))
level_passed (v ∷ w ∷ ws) plain =
    let end = walks v w ws plain in
    and_from _ _ end.passes (ap passes_after end.end ∙ rest_passes v end.before end.last)

-- ---- what a caller has

pub takes_all : (words : List Text) → has_option words ≡ false → takes command words ≡ true
takes_all words plain = leaf_takes (built command) nothing_held words refl (level_passed words plain)

verb_found : (words : List Text) → first_of (codes "verb") (rows_for words) ≡ slice_get words 0
verb_found [] = refl
verb_found (v ∷ ws) = refl

rest_found : (words : List Text) → all_of (codes "rest") (rows_for words) ≡ rest_of words
rest_found [] = refl
rest_found (v ∷ []) = refl
rest_found (v ∷ w ∷ ws) = refl

pub splits : (m : ArgMatches) (words : List Text) → has_option words ≡ false → rows_of (found_of m) ≡ matches_of command words → Splits m words
splits m words plain is =
    let rows = is ∙ matches_are words plain in
    record {
      verb = first_value-rows (found_of m) (codes "verb") ∙ ap (first_of (codes "verb")) rows ∙ verb_found words;
      rest = raw_values-rows (found_of m) (codes "rest") ∙ ap (all_of (codes "rest")) rows ∙ rest_found words;
    }
