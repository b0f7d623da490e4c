-- The story of two peers meets the premises, and both calls are completed.
use lib.Count.{ones, ones_in}
use Rattle.std.proofs.Common.{◌≡◌, ◌<◌, ◌^◌, ℕ, zero, suc, Bool, true, false, not, List, [], ◌∷◌, length, map, Option, None, Some, slice_get, arith, lit<, lit≤, refl, sym, ap, ◌∙◌, subst, inl, inr}
use Rattle.std.proofs.lemmas.Bool.Decides.{nat_tests}
use Rattle.std.proofs.lemmas.Bool.{and_parts}
use Rattle.std.proofs.lemmas.Option.{same_Some, none-some}
use Rattle.std.specs.Prelude.{◌&&◌, ◌||◌, nat_le, slice_index_or}
use Rattle.call_table.specs.Rows.{row_at, with_known, with_stage, check_at, with_check, without_check}
use Rattle.call_table.specs.Tables.{rested, ended, without_due, late_put}
use Rattle.phase_rules.specs.Preparing.{starts}
use Rattle.ens_base.proofs.Lists.{bytes_itself, bytes_same}
use Rattle.ens_base.specs.Limits.{IsBytes, IsKey, IsCommand}
use Rattle.ens_base.specs.Lists.{◌∈◌, AreDistinct, same_bytes}
use Rattle.ens_base.specs.View.{IsView}
use Rattle.fields.specs.Entries.{entry_at}
use Rattle.fields.specs.Strings.{key_at, value_at}
use Rattle.fields.specs.Versions.{epoch_at, version_at}
use Rattle.stored_formats.specs.Objects.{held_at, content_at, object_at}
use Rattle.world_spec.specs.Walks.{walk}
use Rattle.leader_output.specs.Sends.{sent_up_to}
use Rattle.leader.specs.Ticks.{ticks_up_to}
use Rattle.md5.specs.Md5.{block_words, rounds, compress, hash_after, digest_bytes, md5}
use Rattle.process_laws.specs.Moments.{Moment, after, answers_of, calls_of, opening_of, peer_of, run_of}
use Rattle.process_laws.specs.Premises.{Always, AreFew, FactSurvives, IsDown, IsOfPeers, IsOneProcess, IsSound, IsWithinLimits, WasSent, kept_by, node_of}
use Rattle.process_laws.specs.GroupStory.{Move, Ticks, Comes, Calls, Kills, Restarts, coming, left_by, moment_in, moments_in, moves, pair, story, story_answers, story_calls}
use Rattle.peer_spec.specs.Drives.{driven, most_turns}
use Rattle.quorums.specs.Rounds.{answered, begun, state_of}
use Rattle.register_model.specs.declared.call.Call.{Call}
use Rattle.tree_sync.specs.Asks.{asks_up_to}
use Rattle.lexemes.proofs.Ascending.{IsPeer-members, IsStrictlyIncreasing-members}
use Rattle.lexemes.specs.Spelling.{AscendFrom, IsAmong}
use Rattle.step_plans.specs.Plans.{asked}
use Rattle.step_plans.specs.Sends.{posted}
use Rattle.synctree.specs.Sixteen.{children_of, form_of}
use Rattle.tree_node.specs.Entries.{rest_at, next_at}
use Rattle.tree_node.specs.Nodes.{asked_at, inner_fields_at, inner_at, segment_fields_at, segment_at}
use Rattle.tree_node.specs.Positions.{level_at, index_at, position_at, any_position_at}
use Rattle.tree_node.specs.Repeats.{list_at}
use Rattle.wire_frames.specs.declared.frame.Frame.{Frame}
use Rattle.world_spec.specs.Held.{HasNoClash}
use Rattle.world_spec.specs.Nodes.{Node, Up, Down}
use Rattle.world_spec.specs.Runs.{Run}

-- ## Moves

-- a message that was sent is among those that were
get_in : (fs : List Frame) (n : ℕ) (f : Frame) → slice_get fs n ≡ Some f → f ∈ fs
get_in [] n f is = absurd (none-some f is)
get_in (g ∷ fs) zero f is = inl (sym (same_Some g f is))
get_in (g ∷ fs) (suc n) f is = inr (get_in fs n f is)

-- so each message that comes was sent
coming_sent : (w : Run) (n : ℕ) (o : Option Frame) → slice_get w.mail.sent n ≡ o → WasSent w (coming o)
coming_sent w n None at = tt
coming_sent w n (Some f) at = get_in w.mail.sent n f at

moves_sent : (ms : List Move) (w : Run) → Always WasSent (moments_in w ms) w
moves_sent [] w = tt
moves_sent (Ticks p ∷ ms) w = (tt, moves_sent ms (after (moment_in w (Ticks p)) w))
moves_sent (Comes n ∷ ms) w = (coming_sent w n (slice_get w.mail.sent n) refl, moves_sent ms (after (moment_in w (Comes n)) w))
moves_sent (Calls p call ∷ ms) w = (tt, moves_sent ms (after (moment_in w (Calls p call)) w))
moves_sent (Kills p ∷ ms) w = (tt, moves_sent ms (after (moment_in w (Kills p)) w))
moves_sent (Restarts p ∷ ms) w = (tt, moves_sent ms (after (moment_in w (Restarts p)) w))

-- a process that starts where none runs finds the fact that was saved
found_kept : (o : Option Node) → IsDown o → (left_by o).fact ≡ kept_by o
found_kept None down = absurd down
found_kept (Some (Up x s)) down = absurd down
found_kept (Some (Down s)) down = refl

coming_keeps : (w : Run) (o : Option Frame) → FactSurvives w (coming o)
coming_keeps w None = tt
coming_keeps w (Some f) = tt

moves_keep : (ms : List Move) (w : Run) → Always IsOneProcess (moments_in w ms) w → Always FactSurvives (moments_in w ms) w
moves_keep [] w one = tt
moves_keep (Ticks p ∷ ms) w one = (tt, moves_keep ms (after (moment_in w (Ticks p)) w) one.1)
moves_keep (Comes n ∷ ms) w one = (coming_keeps w (slice_get w.mail.sent n), moves_keep ms (after (moment_in w (Comes n)) w) one.1)
moves_keep (Calls p call ∷ ms) w one = (tt, moves_keep ms (after (moment_in w (Calls p call)) w) one.1)
moves_keep (Kills p ∷ ms) w one = (tt, moves_keep ms (after (moment_in w (Kills p)) w) one.1)
moves_keep (Restarts p ∷ ms) w one = (found_kept (node_of w p) one.0, moves_keep ms (after (moment_in w (Restarts p)) w) one.1)

-- calls keep limits
abbrev Fits : Move → Type 0
Fits (Calls p call) = (call.id < 2 ^ 64) × IsKey call.key × IsCommand call.command
Fits m = Unit {0}

abbrev AllFit : List Move → Type 0
AllFit [] = Unit {0}
AllFit (m ∷ ms) = Fits m × AllFit ms

coming_limits : (w : Run) (o : Option Frame) → IsWithinLimits w (coming o)
coming_limits w None = tt
coming_limits w (Some f) = tt

moves_limit : (ms : List Move) (w : Run) → AllFit ms → Always IsWithinLimits (moments_in w ms) w
moves_limit [] w fit = tt
moves_limit (Ticks p ∷ ms) w fit = (tt, moves_limit ms (after (moment_in w (Ticks p)) w) fit.1)
moves_limit (Comes n ∷ ms) w fit = (coming_limits w (slice_get w.mail.sent n), moves_limit ms (after (moment_in w (Comes n)) w) fit.1)
moves_limit (Calls p call ∷ ms) w fit = (fit.0, moves_limit ms (after (moment_in w (Calls p call)) w) fit.1)
moves_limit (Kills p ∷ ms) w fit = (tt, moves_limit ms (after (moment_in w (Kills p)) w) fit.1)
moves_limit (Restarts p ∷ ms) w fit = (tt, moves_limit ms (after (moment_in w (Restarts p)) w) fit.1)

-- ## Tests

-- the peers of all moments are among two
abbrev pub all_of_two : List Moment → Bool
all_of_two [] = true
all_of_two (m ∷ ms) = (nat_le 1 (peer_of m) && nat_le (peer_of m) 2) && all_of_two ms

pub is_of_two : (p : ℕ) → (nat_le 1 p && nat_le p 2) ≡ true → IsAmong 2 p
is_of_two p is = record { first = grind (arith, nat_tests); last = grind (arith, nat_tests) }

are_of_two : (ms : List Moment) (w : Run) → all_of_two ms ≡ true → Always (IsOfPeers 2) ms w
are_of_two [] w is = tt
are_of_two (m ∷ ms) w is = let both = and_parts (nat_le 1 (peer_of m) && nat_le (peer_of m) 2) (all_of_two ms) is in (is_of_two (peer_of m) both.0, are_of_two ms (after m w) both.1)

-- strings with one MD5 are one string
abbrev is_fine : List ℕ → List ℕ → Bool
is_fine x y = same_bytes x y || not (same_bytes (md5 x) (md5 y))

abbrev fine_with : List ℕ → List (List ℕ) → Bool
fine_with x [] = true
fine_with x (y ∷ ys) = is_fine x y && fine_with x ys

abbrev pub all_fine : List (List ℕ) → List (List ℕ) → Bool
all_fine [] ys = true
all_fine (x ∷ xs) ys = fine_with x ys && all_fine xs ys

one_string : (x y : List ℕ) → is_fine x y ≡ true → md5 x ≡ md5 y → x ≡ y
one_string x y fine same = by (same_bytes x y) refl
  where
    by : (b : Bool) → same_bytes x y ≡ b → x ≡ y
    by true is = bytes_same x y is
    by false is = absurd (clash (ap (λ (b : Bool). b || not (same_bytes (md5 x) (md5 y))) (sym is) ∙ fine) (subst (λ (d : List ℕ). same_bytes (md5 x) d ≡ true) same (bytes_itself (md5 x))))
      where
        clash : not (same_bytes (md5 x) (md5 y)) ≡ true → same_bytes (md5 x) (md5 y) ≡ true → ⊥
        clash differ alike = grind (arith, differ, alike)

fine_at : (x : List ℕ) (ys : List (List ℕ)) (k : ℕ) (y : List ℕ) → fine_with x ys ≡ true → k < length ys → slice_index_or ys k y ≡ y → is_fine x y ≡ true
fine_at x [] k y fine within is = absurd (omega (arith, within))
fine_at x (z ∷ ys) zero y fine within is = subst (λ (v : List ℕ). is_fine x v ≡ true) is (and_parts (is_fine x z) (fine_with x ys) fine).0
fine_at x (z ∷ ys) (suc k) y fine within is = fine_at x ys k y (and_parts (is_fine x z) (fine_with x ys) fine).1 (omega (arith, within)) is

all_fine_at : (xs ys : List (List ℕ)) (k : ℕ) (x : List ℕ) → all_fine xs ys ≡ true → k < length xs → slice_index_or xs k x ≡ x → fine_with x ys ≡ true
all_fine_at [] ys k x fine within is = absurd (omega (arith, within))
all_fine_at (z ∷ xs) ys zero x fine within is = subst (λ (v : List ℕ). fine_with v ys ≡ true) is (and_parts (fine_with z ys) (all_fine xs ys) fine).0
all_fine_at (z ∷ xs) ys (suc k) x fine within is = all_fine_at xs ys k x (and_parts (fine_with z ys) (all_fine xs ys) fine).1 (omega (arith, within)) is

pub no_clash : (strings : List (List ℕ)) → all_fine strings strings ≡ true → HasNoClash strings
no_clash strings fine a b in_a in_b same = one_string a b (fine_at a strings in_b.0 b (all_fine_at strings strings in_a.0 a fine in_a.1 in_a.2) in_b.1 in_b.2) same

-- ## The premises are met

members : AscendFrom 1 2 (1 ∷ 2 ∷ [])
members = (lit≤ tt, lit≤ tt, (lit≤ tt, lit≤ tt, tt))

pub pair_view : IsView (1 ∷ 2 ∷ [])
pair_view = record { size = (lit≤ tt, lit≤ tt); peers = IsPeer-members 1 2 (1 ∷ 2 ∷ []) (lit≤ tt) (lit≤ tt) members; ascends = IsStrictlyIncreasing-members 1 2 (1 ∷ 2 ∷ []) members }

abbrev first_world : Run
first_world = opening_of (pair [])

of_two : all_of_two story.moments ≡ true
unfolding walk driven most_turns form_of children_of block_words rounds compress hash_after digest_bytes md5 asked posted starts rested ended without_due late_put row_at with_known with_stage check_at with_check without_check level_at index_at position_at any_position_at list_at rest_at next_at asked_at inner_fields_at inner_at segment_fields_at segment_at answered begun state_of epoch_at version_at entry_at key_at value_at held_at content_at object_at sent_up_to ticks_up_to asks_up_to ones ones_in
of_two = refl

one : Always IsOneProcess story.moments first_world
unfolding walk driven most_turns form_of children_of block_words rounds compress hash_after digest_bytes md5 asked posted starts rested ended without_due late_put row_at with_known with_stage check_at with_check without_check level_at index_at position_at any_position_at list_at rest_at next_at asked_at inner_fields_at inner_at segment_fields_at segment_at answered begun state_of epoch_at version_at entry_at key_at value_at held_at content_at object_at sent_up_to ticks_up_to asks_up_to ones ones_in
one = (tt, (tt, (tt, (tt, (tt, (tt, (tt, (tt, (tt, (tt, (tt, (tt, (tt, (tt, (tt, (tt, (tt, (tt, (tt, (tt, (tt, (tt, tt))))))))))))))))))))))

one_byte : (b : ℕ) → b < 256 → IsBytes (b ∷ [])
one_byte b less zero = less
one_byte b less (suc i) = lit< tt

limits : Always IsWithinLimits story.moments first_world
limits = moves_limit moves first_world (tt, (tt, (tt, (tt, (tt, (tt, (tt, (tt, (tt, (tt, (tt, (tt, ((lit< tt, record { size = (lit≤ tt, lit≤ tt); bytes = one_byte 0x6b (lit< tt) }, record { size = lit≤ tt; bytes = one_byte 0x76 (lit< tt) }), (tt, (tt, (tt, (tt, (tt, (tt, ((lit< tt, record { size = (lit≤ tt, lit≤ tt); bytes = one_byte 0x6b (lit< tt) }, tt), (tt, (tt, tt))))))))))))))))))))))

pub story_called : calls_of story ≡ story_calls
unfolding walk driven most_turns form_of children_of block_words rounds compress hash_after digest_bytes md5 asked posted starts rested ended without_due late_put row_at with_known with_stage check_at with_check without_check level_at index_at position_at any_position_at list_at rest_at next_at asked_at inner_fields_at inner_at segment_fields_at segment_at answered begun state_of epoch_at version_at entry_at key_at value_at held_at content_at object_at sent_up_to ticks_up_to asks_up_to ones ones_in
story_called = refl

fine : all_fine (run_of story).hashed (run_of story).hashed ≡ true
unfolding walk driven most_turns form_of children_of block_words rounds compress hash_after digest_bytes md5 asked posted starts rested ended without_due late_put row_at with_known with_stage check_at with_check without_check level_at index_at position_at any_position_at list_at rest_at next_at asked_at inner_fields_at inner_at segment_fields_at segment_at answered begun state_of epoch_at version_at entry_at key_at value_at held_at content_at object_at sent_up_to ticks_up_to asks_up_to ones ones_in
fine = refl

pub story_answered : answers_of story ≡ story_answers
unfolding walk driven most_turns form_of children_of block_words rounds compress hash_after digest_bytes md5 asked posted starts rested ended without_due late_put row_at with_known with_stage check_at with_check without_check level_at index_at position_at any_position_at list_at rest_at next_at asked_at inner_fields_at inner_at segment_fields_at segment_at answered begun state_of epoch_at version_at entry_at key_at value_at held_at content_at object_at sent_up_to ticks_up_to asks_up_to ones ones_in
story_answered = refl

pub story_few : AreFew story_calls
story_few = record { few = lit< tt; keys = (0x6b ∷ []) ∷ []; few_keys = lit< tt; own_key = by }
  where
    by : (c : Call) → c ∈ story_calls → c.key ∈ ((0x6b ∷ []) ∷ [])
    by c (inl is) = inl (ap (λ (x : Call). x.key) is)
    by c (inr (inl is)) = inl (ap (λ (x : Call). x.key) is)
    by c (inr (inr none)) = absurd none

pub story_distinct : AreDistinct (map (λ (c : Call). c.id) story_calls)
story_distinct = (other, (λ none. none, tt))
  where
    other : ◌∈◌ {A = ℕ} 1 (2 ∷ []) → ⊥
    other (inl same) = absurd (omega (arith, same))
    other (inr none) = none

pub story_sound : IsSound story
story_sound = record {
  few_peers = lit≤ tt;
  is_view = pair_view;
  few_moments = lit< tt;
  few_calls = subst AreFew (sym story_called) story_few;
  of_peers = are_of_two story.moments first_world of_two;
  first_without_fact = λ p among. refl;
  one_process = one;
  facts_survive = moves_keep moves first_world one;
  messages_were_sent = moves_sent moves first_world;
  events_keep_limits = limits;
  distinct_calls = subst (λ (calls : List Call). AreDistinct (map (λ (c : Call). c.id) calls)) (sym story_called) story_distinct;
  no_clash = no_clash (run_of story).hashed fine;
}
