-- A lone peer that lives twice meets the premises, and some groups break one.
use Rattle.std.proofs.Common.{◌≡◌, ◌<◌, ℕ, zero, suc, List, [], ◌∷◌, length, arith, lit<, lit≤, refl, sym, subst, ◌∙◌, ◌++◌}
use Rattle.std.specs.Prelude.{slice_index_or}
use Rattle.std.proofs.lemmas.Option.{none-some}
use Rattle.ens_base.specs.View.{IsView}
use Rattle.world_spec.specs.Walks.{walk}
use Rattle.process_laws.specs.Moments.{Group, Moment, Starts, after, opening_of, run_of, run_on}
use Rattle.process_laws.specs.Premises.{Always, FactSurvives, IsSound}
use Rattle.process_laws.specs.GroupWitness.{StartsOnOlder, two_lives, two_processes, a_lost_fact, an_unsent_message}
use Rattle.peer_spec.specs.Drives.{driven, most_turns}
use Rattle.lexemes.proofs.Ascending.{IsPeer-members, IsStrictlyIncreasing-members}
use Rattle.lexemes.specs.Spelling.{AscendFrom, IsAmong}
use Rattle.synctree.specs.Sixteen.{form_of}
use Rattle.wire_frames.specs.declared.message.Message.{Message}
use Rattle.world_spec.specs.Held.{HasNoClash}
use Rattle.world_spec.specs.Runs.{Run}

-- one string has no clash
only : (x y : List ℕ) (k : ℕ) → k < length (x ∷ []) → slice_index_or (x ∷ []) k y ≡ y → y ≡ x
only x y zero within is = sym is
only x y (suc k) within is = absurd (omega (arith, within))

pub one_string : (x : List ℕ) → HasNoClash (x ∷ [])
one_string x a b in_a in_b same = only x a in_a.0 in_a.1 in_a.2 ∙ sym (only x b in_b.0 in_b.1 in_b.2)

members : AscendFrom 1 1 (1 ∷ [])
members = (lit≤ tt, lit≤ tt, tt)

pub lone_view : IsView (1 ∷ [])
lone_view = record { size = (lit≤ tt, lit≤ tt); peers = IsPeer-members 1 1 (1 ∷ []) (lit≤ tt) (lit≤ tt) members; ascends = IsStrictlyIncreasing-members 1 1 (1 ∷ []) members }

-- the only string that is hashed is the root of the empty tree
no_clash : HasNoClash (run_of two_lives).hashed
unfolding walk driven most_turns form_of
no_clash = one_string _

is_first : IsAmong 1 1
is_first = record { first = lit≤ tt; last = lit≤ tt }

-- every premise is met
pub lone_sound : IsSound two_lives
unfolding walk driven most_turns form_of
lone_sound = record {
  few_peers = lit≤ tt;
  is_view = lone_view;
  few_moments = lit< tt;
  few_calls = record { few = lit< tt; keys = []; few_keys = lit< tt; own_key = λ c none. absurd none };
  of_peers = (is_first, (is_first, (is_first, (is_first, (is_first, (is_first, tt))))));
  first_without_fact = λ p among. refl;
  one_process = (tt, (tt, (tt, (tt, (tt, (tt, tt))))));
  facts_survive = (tt, (tt, (tt, (tt, (refl, (tt, tt))))));
  messages_were_sent = (tt, (tt, (tt, (tt, (tt, (tt, tt))))));
  events_keep_limits = (tt, (tt, (tt, (tt, (tt, (tt, tt))))));
  distinct_calls = tt;
  no_clash = no_clash;
}

-- a message that was not sent
pub unsent_breaks : (message : Message) → ¬ IsSound (an_unsent_message message)
unsent_breaks message sound = sound.messages_were_sent.0

-- a second process of a peer that runs
pub second_breaks : ¬ IsSound two_processes
unfolding walk form_of
second_breaks sound = sound.one_process.0

-- a start without the fact that was saved
pub lost_breaks : ¬ IsSound a_lost_fact
unfolding walk form_of
lost_breaks sound = none-some _ sound.facts_survive.1.0

-- what holds of each moment holds of the first of those that follow some
always_at : (P : Run → Moment → Type 0) (before later : List Moment) (m : Moment) (w : Run) → Always P (before ++ m ∷ later) w → P (run_on before w) m
always_at P [] later m w all = all.0
always_at P (first ∷ before) later m w all = always_at P before later m (after first w) all.1

-- a start with a fact that was replaced
pub older_breaks : (g : Group) → StartsOnOlder g → ¬ IsSound g
older_breaks g starts sound = starts.replaced (sym starts.older
    ∙ always_at FactSurvives (starts.early ++ starts.since) starts.later (Starts starts.peer starts.found) (opening_of g) (subst (λ (ms : List Moment). Always FactSurvives ms (opening_of g)) starts.moments sound.facts_survive))
