-- The stamps that were shown stay known.
use Rattle.std.proofs.Common.{◌≡◌, ℕ, Bool, true, false, List, [], ◌∷◌, ◌++◌, inl, inr, refl, sym, subst, Option, None, Some}
use Rattle.ens_base.proofs.Lists.{in_right}
use Rattle.std.specs.Prelude.{if◌then◌else◌, not, ◌&&◌, fold}
use Rattle.ens_base.specs.Lists.{◌∈◌, same_bytes}
use Rattle.ens_base.specs.Epochs.{same_version}
use Rattle.ens_base.specs.declared.epoch.Version.{Version}
use Rattle.ens_base.specs.declared.command.Command.{Command}
use Rattle.ens_base.specs.declared.command.Command.TheVariants.{Get, Update}
use Rattle.ens_base.specs.declared.reply.Reply.{Reply}
use Rattle.object_commands.specs.declared.verdict.Verdict.{Verdict}
use Rattle.object_commands.specs.declared.verdict.Verdict.TheVariants.{Answer, Write}
use Rattle.register_checker.specs.Stamps.{with_stamp}
use Rattle.register_checker.specs.Guesses.{silent, answered, left_untold, left_told, write_told, get_told, update_told, told_content, untold_content, is_new, may_be, learned, same_reply, verdict_on, all_silent, all_answered, added}
use Rattle.register_checker.specs.Meanings.{IsTaken, AreTaken}
use Rattle.register_checker.specs.declared.guess.Guess.{Guess}
use Rattle.register_checker.specs.declared.guess.Guess.TheVariants.{Absent, Told, Untold}
use Rattle.register_checker.specs.declared.guess.Possible.{Possible}
use Rattle.register_checker.proofs.Stands.{with_new}
use Rattle.register_checker.proofs.Fresh.{Has}
use Rattle.register_checker.proofs.Outcomes.{learned_more, learned_stamp}
use Rattle.register_checker.proofs.Lists.{some_from}

taken_more : (held : Guess) (S T : List Version) → Has T S → IsTaken S held → IsTaken T held
taken_more (Told s b) S T sub h = sub s h
taken_more Absent S T sub h = tt
taken_more (Untold b E) S T sub h = tt

abbrev AtOnce : List Version → Possible → Type 0
AtOnce K p = IsTaken (p.named ++ K) p.held

only_one : (K : List Version) (x m : Possible) → AtOnce K x → m ∈ (x ∷ []) → AtOnce K m
only_one K x m h (inl e) = subst (AtOnce K) (sym e) h
only_one K x m h (inr there) = absurd there

if_one : (K : List Version) (b : Bool) (x m : Possible) → AtOnce K x → m ∈ (if b then x ∷ [] else []) → AtOnce K m
if_one K true x m h there = only_one K x m h there
if_one K false x m h there = absurd there

untold_taken : (content : Option (List ℕ)) (S : List Version) → IsTaken S (untold_content content)
untold_taken None S = tt
untold_taken (Some b) S = tt

told_taken : (content : Option (List ℕ)) (S : List Version) (t : Version) → t ∈ S → IsTaken S (told_content t content)
told_taken None S t h = tt
told_taken (Some b) S t h = h

-- ## Without a printed reply

left_untold_taken : (v : Verdict) (K N : List Version) (held : Guess) (m : Possible) → IsTaken (N ++ K) held → m ∈ left_untold v held N → AtOnce K m
left_untold_taken (Answer a) K N held m h there = only_one K (record { held = held; named = N }) m h there
left_untold_taken (Write content) K N held m h there = only_one K (record { held = untold_content content; named = N }) m (untold_taken content (N ++ K)) there

update_taken : (K N E : List Version) (w : Version) (new b : List ℕ) (may : Bool) (m : Possible) → m ∈ (if may then record { held = Untold b (E ++ w ∷ []); named = N } ∷ record { held = Untold new []; named = N ++ w ∷ [] } ∷ [] else record { held = Untold b E; named = N } ∷ []) → AtOnce K m
update_taken K N E w new b true m (inl e) = subst (AtOnce K) (sym e) tt
update_taken K N E w new b true m (inr there) = only_one K (record { held = Untold new []; named = N ++ w ∷ [] }) m tt there
update_taken K N E w new b false m there = only_one K (record { held = Untold b E; named = N }) m tt there

silent_taken : (K N : List Version) (held : Guess) (c : Command) (m : Possible) → IsTaken (N ++ K) held → m ∈ silent K N held c → AtOnce K m
silent_taken K N Absent c m h there = left_untold_taken (verdict_on c Absent) K N Absent m h there
silent_taken K N (Told s b) c m h there = left_untold_taken (verdict_on c (Told s b)) K N (Told s b) m h there
silent_taken K N (Untold b E) (Update w new) m h there = update_taken K N E w new b (may_be K N E w) m there
silent_taken K N (Untold b E) Get m h there = only_one K (record { held = Untold b E; named = N }) m tt there
silent_taken K N (Untold b E) c m h there = left_untold_taken (verdict_on c (Untold b E)) K N (Untold b E) m h there

-- ## With a printed reply

write_taken : (c : Command) (K N : List Version) (content : Option (List ℕ)) (r : Reply) (m : Possible) → m ∈ write_told K N content r → AtOnce (learned K c r) m
write_taken c K N content (Reply.Ok t) m there =
    if_one (learned K c (Reply.Ok t)) (is_new K N t) (record { held = told_content t content; named = N }) m (told_taken content (N ++ learned K c (Reply.Ok t)) t (learned_stamp N K c t)) there
write_taken c K N content r m there = absurd there

left_told_taken : (c : Command) (v : Verdict) (K N : List Version) (held : Guess) (r : Reply) (m : Possible) → IsTaken (N ++ K) held → m ∈ left_told K v r held N → AtOnce (learned K c r) m
left_told_taken c (Answer a) K N held r m h there =
    if_one (learned K c r) (same_reply a r) (record { held = held; named = N }) m (taken_more held (N ++ K) (N ++ learned K c r) (learned_more N K c r) h) there
left_told_taken c (Write content) K N held r m h there = write_taken c K N content r m there

read_taken : (K N E : List Version) (b : List ℕ) (r : Reply) (m : Possible) → m ∈ get_told K N r b E → AtOnce (learned K Get r) m
read_taken K N E b (Reply.Value t d) m there = if_one (with_stamp K t) (same_bytes d b && may_be K N E t) (record { held = Told t b; named = N }) m (in_right N (with_stamp K t) t (with_new K t)) there
read_taken K N E b r m there = absurd there

done_taken : (K N E : List Version) (w : Version) (new b : List ℕ) (r : Reply) (m : Possible) → m ∈ update_told K N w new r b E → AtOnce (learned K (Update w new) r) m
done_taken K N E w new b (Reply.Ok t) m there =
    if_one (learned K (Update w new) (Reply.Ok t)) (may_be K N E w && (is_new K N t && not (same_version t w))) (record { held = Told t new; named = N }) m (learned_stamp N K (Update w new) t) there
done_taken K N E w new b Reply.Failed m there = only_one K (record { held = Untold b (with_stamp E w); named = N }) m tt there
done_taken K N E w new b r m there = absurd there

answered_taken : (K N : List Version) (held : Guess) (c : Command) (r : Reply) (m : Possible) → IsTaken (N ++ K) held → m ∈ answered K N held c r → AtOnce (learned K c r) m
answered_taken K N Absent c r m h there = left_told_taken c (verdict_on c Absent) K N Absent r m h there
answered_taken K N (Told s b) c r m h there = left_told_taken c (verdict_on c (Told s b)) K N (Told s b) r m h there
answered_taken K N (Untold b E) (Update w new) r m h there = done_taken K N E w new b r m there
answered_taken K N (Untold b E) Get r m h there = read_taken K N E b r m there
answered_taken K N (Untold b E) c r m h there = left_told_taken c (verdict_on c (Untold b E)) K N (Untold b E) r m h there

-- ## Whole lists

-- an item of the list that a call leaves was left of an item of the list before
made_by : (f : Possible → List Possible) (list : List Possible) (m : Possible) → m ∈ fold (λ d p. fold added d (f p)) [] list → (p : Possible) × (p ∈ list) × (m ∈ f p)
made_by f list m there =
    let of = some_from (λ q. q ≡ m) f list (m, there, refl) in
    (of.0, of.1, (let Q : Possible → Type 0 = λ q. q ∈ f of.0 in subst Q of.2.2 of.2.1))

pub all_silent_taken : (K : List Version) (c : Command) (list : List Possible) → AreTaken K list → AreTaken K (all_silent K c list)
all_silent_taken K c list taken m there =
    let of = made_by (λ p. silent K p.named p.held c) list m there in
    silent_taken K of.0.named of.0.held c m (taken of.0 of.1) of.2

pub all_answered_taken : (K : List Version) (c : Command) (r : Reply) (list : List Possible) → AreTaken K list → AreTaken (learned K c r) (all_answered K c r list)
all_answered_taken K c r list taken m there =
    let of = made_by (λ p. answered K p.named p.held c r) list m there in
    answered_taken K of.0.named of.0.held c r m (taken of.0 of.1) of.2
