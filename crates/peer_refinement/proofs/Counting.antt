-- An ask takes a part of a map: what it counts.
use Rattle.std.proofs.Common.{◌≡◌, ◌⊎◌, ℕ, ◌<◌, ◌≤◌, max, Bool, true, false, not, ◌&&◌, List, [], ◌∷◌, ◌++◌, Option, None, Some, arith, refl, ap, sym, ◌∙◌, subst, inl, inr, le_trans, append-nil}
use Rattle.std.specs.List.{AllByRecursion}
use Rattle.std.specs.Prelude.{◌==◌, if◌then◌else◌}
use Rattle.std.proofs.lemmas.Bool.{and_parts, eqb-true}
use Rattle.std.proofs.lemmas.Bool.Decides.{nat_tests}
use Rattle.protocol_laws.specs.Numbers.{IsVersion}
use Rattle.ens_base.specs.Lists.{◌∈◌}
use Rattle.ens_base.specs.declared.entry.Entry.{Entry}
use Rattle.fields.specs.Entries.{IsEntry}
use Rattle.tree_node.specs.declared.version.TreeVersion.{TreeVersion}
use Rattle.tree_node.specs.TreeVersions.{levels}
use Rattle.tree_exchange.proofs.Gifts.{give_page}
use Rattle.tree_exchange.proofs.Having.{in_has, from_filter}
use Rattle.tree_exchange.proofs.Keeping.{take_keeps}
use Rattle.tree_exchange.specs.Asked.{Asked}
use Rattle.tree_exchange.specs.Asks.{onward, is_open, is_empty, to_ask, names_in, after_inner, after_page, step_to, stepped, reply, taken}
use Rattle.tree_exchange.specs.Covers.{Has, Covers, give_of, IsOwn, AreApart}
use Rattle.tree_exchange.specs.Gives.{is_beyond, beyond}
use Rattle.tree_exchange.specs.declared.question.Question.{Question}
use Rattle.tree_exchange.specs.declared.step.Step.{Step}
use Rattle.tree_exchange.specs.declared.step.Step.TheVariants as steps
use Rattle.peer_refinement.specs.LeaderRefinement.{rank}
use Rattle.peer_refinement.proofs.Numbers.{version_fits}
use Rattle.tree_sync.specs.declared.asking.Asking.{Asking}
use Rattle.tree_sync.specs.declared.asking.Stage.{Stage}
use Rattle.role_laws.proofs.Coverage.{max_left, max_right, max_more}
use Rattle.role_laws.specs.Exchange.{Counts}
use Rattle.role_laws.specs.Syncs as syncs
use Rattle.synctree.specs.Entries.{Ascends, IsMap}
use Rattle.synctree.specs.Paths.{passes, under}
use Rattle.synctree.specs.Sixteen.{form_of, children_of}
use Rattle.tree_node.specs.Positions.{IsPosition}
use Rattle.tree_node.specs.declared.body.Scan.{Scan}
use Rattle.tree_node.specs.declared.body.TreeBody.{TreeBody}
use Rattle.tree_node.specs.declared.body.TreeBody.TheVariants.{Inner, Page, Damaged}
use Rattle.tree_node.specs.declared.position.Position.{Position}
use Rattle.peer_refinement.specs.Seen.{ranks, greatest, is_left, seen_stage, seen_ask}
use Rattle.peer_refinement.proofs.Maps.{not_zero, HasRank, ranks_found, ranks_has, greatest_append, greatest_has, greatest_of, in_take, left_is, is_left_of}
use Rattle.protocol_laws.proofs.Epochs.{not_both}
use Rattle.role_laws.proofs.LeaderMoves.{max_cases}

-- ## Steps

-- a reply goes on with an ask, or drops it
by_reply : (version : TreeVersion) (P : Step × Asked → Type 0) → ((x : Asked) → P (stepped x)) → ((x : Asked) → P (steps.Dropped, x)) → (damaged : List Position) (own : List (Option (List ℕ))) (at : Position) (body : TreeBody) (ask : Asked) → P (reply version damaged own at body ask)
by_reply version P goes drops damaged own at (Inner mask digests) ask = by_level (at.level == levels version)
  where
    by_level : (b : Bool) → P (if b then (steps.Dropped, ask) else stepped (after_inner version damaged at own (children_of mask digests) ask))
    by_level true = drops ask
    by_level false = goes (after_inner version damaged at own (children_of mask digests) ask)
by_reply version P goes drops damaged own at (Page es more) ask = by_test (at.level == levels version && not (is_empty es && more))
  where
    by_test : (b : Bool) → P (if b then stepped (after_page at es more ask) else (steps.Dropped, ask))
    by_test true = goes (after_page at es more ask)
    by_test false = drops ask
by_reply version P goes drops damaged own at (Damaged p) ask = drops ask

-- an ask that is done has no open question
pub done_is : (version : TreeVersion) (scan : Scan) (own : Option (List ℕ)) (q : Question) (body : TreeBody) (ask : Asked) → (taken version scan own q body ask).0 ≡ steps.Done → (taken version scan own q body ask).1.current ≡ None
done_is version scan own q body ask = by_open (is_open ask.current q)
  where
    none : (o : Option Question) → step_to o ≡ steps.Done → o ≡ None
    none None h = refl
    none (Some x) h = absurd cc

    IsDone : Step × Asked → Type 0
    IsDone next = next.0 ≡ steps.Done → next.1.current ≡ None

    by_open : (b : Bool) → IsDone (if b then reply version scan.damaged (names_in version q.position own) q.position body ask else (steps.Ignored, ask))
    by_open true = by_reply version IsDone (λ x h. none x.current h) (λ x h. absurd cc) scan.damaged (names_in version q.position own) q.position body ask
    by_open false = λ h. absurd cc

-- an answer that is ignored leaves the ask
pub ignored_is : (version : TreeVersion) (scan : Scan) (own : Option (List ℕ)) (q : Question) (body : TreeBody) (ask : Asked) → (taken version scan own q body ask).0 ≡ steps.Ignored → (taken version scan own q body ask).1 ≡ ask
ignored_is version scan own q body ask = by_open (is_open ask.current q)
  where
    never : (o : Option Question) → step_to o ≡ steps.Ignored → ⊥
    never None h = cc
    never (Some x) h = cc

    by_open : (b : Bool) → (if b then reply version scan.damaged (names_in version q.position own) q.position body ask else (steps.Ignored, ask)).0 ≡ steps.Ignored → (if b then reply version scan.damaged (names_in version q.position own) q.position body ask else (steps.Ignored, ask)).1 ≡ ask
    by_open true h = absurd (by_reply version (λ next. next.0 ≡ steps.Ignored → ⊥) (λ x. never x.current) (λ x t. cc) scan.damaged (names_in version q.position own) q.position body ask h)
    by_open false h = refl

-- a report of damage drops the ask, or is ignored
pub damage_is : (version : TreeVersion) (scan : Scan) (own : Option (List ℕ)) (q : Question) (at : Position) (ask : Asked) → ((taken version scan own q (Damaged at) ask).0 ≡ steps.Dropped) ⊎ ((taken version scan own q (Damaged at) ask).0 ≡ steps.Ignored)
damage_is version scan own q at ask = by_open (is_open ask.current q)
  where
    by_open : (b : Bool) → ((if b then reply version scan.damaged (names_in version q.position own) q.position (Damaged at) ask else (steps.Ignored, ask)).0 ≡ steps.Dropped) ⊎ ((if b then reply version scan.damaged (names_in version q.position own) q.position (Damaged at) ask else (steps.Ignored, ask)).0 ≡ steps.Ignored)
    by_open true = inl refl
    by_open false = inr refl

-- ## What is received

-- what was received before, and entries of the map
pub record Receives (m old new : List Entry) : Type 0 where
  pub more : List Entry
  pub among : (e : Entry) → e ∈ more → e ∈ m
  pub is : new ≡ old ++ more

nothing_more : (m old new : List Entry) → new ≡ old → Receives m old new
nothing_more m old new same = record { more = []; among = λ e at. absurd at; is = same ∙ sym (append-nil old) }

onward_received : (ps : List Position) (es : List Entry) → (onward ps es).received ≡ es
onward_received [] es = refl
onward_received (p ∷ ps) es = refl

page_items : (es fs : List Entry) (more rest : Bool) → Page es more ≡ Page fs rest → es ≡ fs
page_items es fs more rest h = cc

-- the entries of a page are entries of the map
page_among : (version : TreeVersion) (m : List Entry) (q : Question) (es : List Entry) (more : Bool) → IsMap m → IsPosition version q.position → q.position.level ≡ levels version → Page es more ≡ give_of version m q → (e : Entry) → e ∈ es → e ∈ m
page_among version m q es more ok p low sent e at =
    let items = page_items es _ more _ (sent ∙ give_page version m q ok p low) in
    let past = in_take 32 (beyond q.after (under (form_of version) q.position m)) e (subst (λ (xs : List Entry). e ∈ xs) items at) in
    (from_filter (λ (x : Entry). passes (form_of version) x.key q.position.level q.position.index) e m (from_filter (λ (x : Entry). is_beyond q.after x.key) e (under (form_of version) q.position m) past).0).0

page_receives : (m : List Entry) (at : Position) (es : List Entry) (more : Bool) (ask : Asked) → ((e : Entry) → e ∈ es → e ∈ m) → Receives m ask.received (after_page at es more ask).received
page_receives m at es true ask among = record { more = es; among = among; is = refl }
page_receives m at es false ask among = record { more = es; among = among; is = onward_received ask.left (ask.received ++ es) }

reply_receives : (version : TreeVersion) (m : List Entry) (damaged : List Position) (own : List (Option (List ℕ))) (q : Question) (body : TreeBody) (ask : Asked) → IsMap m → IsPosition version q.position → body ≡ give_of version m q → Receives m ask.received (reply version damaged own q.position body ask).1.received
reply_receives version m damaged own q (Inner mask digests) ask ok p sent = by_level (q.position.level == levels version)
  where
    by_level : (b : Bool) → Receives m ask.received (if b then (steps.Dropped, ask) else stepped (after_inner version damaged q.position own (children_of mask digests) ask)).1.received
    by_level true = nothing_more m ask.received ask.received refl
    by_level false = nothing_more m ask.received _ (onward_received (to_ask version damaged q.position own 0 (children_of mask digests) ++ ask.left) ask.received)
reply_receives version m damaged own q (Page es more) ask ok p sent = by_test (q.position.level == levels version && not (is_empty es && more)) refl
  where
    by_test : (b : Bool) → (q.position.level == levels version && not (is_empty es && more)) ≡ b → Receives m ask.received (if b then stepped (after_page q.position es more ask) else (steps.Dropped, ask)).1.received
    by_test true h = page_receives m q.position es more ask (page_among version m q es more ok p (eqb-true q.position.level (levels version) (and_parts (q.position.level == levels version) (not (is_empty es && more)) h).0) sent)
    by_test false h = nothing_more m ask.received ask.received refl
reply_receives version m damaged own q (Damaged at) ask ok p sent = nothing_more m ask.received ask.received refl

-- an ask that takes a part of a map receives only entries of the map
pub taken_receives : (version : TreeVersion) (m : List Entry) (scan : Scan) (own : Option (List ℕ)) (q : Question) (body : TreeBody) (ask : Asked) → IsMap m → IsPosition version q.position → body ≡ give_of version m q → Receives m ask.received (taken version scan own q body ask).1.received
taken_receives version m scan own q body ask ok p sent = by_open (is_open ask.current q)
  where
    by_open : (b : Bool) → Receives m ask.received (if b then reply version scan.damaged (names_in version q.position own) q.position body ask else (steps.Ignored, ask)).1.received
    by_open true = reply_receives version m scan.damaged (names_in version q.position own) q body ask ok p sent
    by_open false = nothing_more m ask.received ask.received refl

-- ## What is counted

all_in : (m : List Entry) (e : Entry) → AllByRecursion IsEntry m → e ∈ m → IsEntry e
all_in [] e all at = absurd at
all_in (x ∷ m) e all (inl same) = subst IsEntry (sym same) all.0
all_in (x ∷ m) e all (inr at) = all_in m e all.1 at

max_none : (a : ℕ) → max a 0 ≡ a
max_none a = grind (arith, nat_tests)

above_none : (v n : ℕ) → 0 < v → v ≤ n → 0 < n
above_none v n some low = omega (arith, some, low)

none_left : (current : Option Question) (left : List Position) (k : List ℕ) → current ≡ None → is_left current left k ≡ false
none_left None left k h = refl
none_left (Some x) left k h = absurd cc

module _ (version : TreeVersion) (m n : List Entry) (scan : Scan) (own : Option (List ℕ)) (q : Question) (body : TreeBody) (ask : Asked) (p : IsPosition version q.position) (ok : IsMap m) (sent : body ≡ give_of version m q) (is_own : IsOwn version own scan q.position n) (apart : AreApart version m n) (ascends : Ascends scan.entries) where
  -- the ask once it took the body
  abbrev pub next : Asked
  next = (taken version scan own q body ask).1

  received : Receives m ask.received next.received
  received = taken_receives version m scan own q body ask ok p sent

  greatest_is : (k : List ℕ) → greatest next.received k ≡ max (greatest ask.received k) (greatest received.more k)
  greatest_is k = ap (λ (es : List Entry). greatest es k) received.is ∙ greatest_append ask.received received.more k

  -- what was received is as before, or comes from the map
  pub taken_from : (k : List ℕ) → (greatest next.received k ≡ greatest ask.received k) ⊎ (greatest next.received k ≡ ranks m k)
  taken_from k = by_more (greatest_of m received.more ok.ascends received.among k)
    where
      by_max : greatest received.more k ≡ ranks m k → (max (greatest ask.received k) (greatest received.more k) ≡ greatest ask.received k) ⊎ (max (greatest ask.received k) (greatest received.more k) ≡ greatest received.more k) → (greatest next.received k ≡ greatest ask.received k) ⊎ (greatest next.received k ≡ ranks m k)
      by_max same (inl old) = inl (greatest_is k ∙ old)
      by_max same (inr new) = inr (greatest_is k ∙ new ∙ same)

      by_more : (greatest received.more k ≡ 0) ⊎ (greatest received.more k ≡ ranks m k) → (greatest next.received k ≡ greatest ask.received k) ⊎ (greatest next.received k ≡ ranks m k)
      by_more (inl none) = inl (greatest_is k ∙ ap (λ x. max (greatest ask.received k) x) none ∙ max_none (greatest ask.received k))
      by_more (inr same) = by_max same (max_cases (greatest ask.received k) (greatest received.more k))

  -- what the ask takes of a key that was left to ask
  covered_now : (k : List ℕ) → HasRank m k (ranks m k) → is_left ask.current ask.left k ≡ true → is_left next.current next.left k ≡ false → ranks m k ≤ max (greatest next.received k) (ranks scan.entries k)
  covered_now k found left none = subst (λ x. x ≤ max (greatest next.received k) (ranks scan.entries k)) (sym found.rank_is) (by_covers (take_keeps version scan own q body ask m n k found.entry.version p ok has sent is_own apart (inl (left_is version ask.current ask.left k left))))
    where
      has : Has m k found.entry.version
      has = in_has found.entry m k found.entry.version found.inside found.key_is (inl refl)

      fits : IsVersion found.entry.version
      fits = version_fits found.entry.version (all_in m found.entry ok.entries found.inside).version

      by_covers : Covers version next scan.entries k found.entry.version → rank found.entry.version ≤ max (greatest next.received k) (ranks scan.entries k)
      by_covers (inl still) = absurd (not_both (is_left_of version next.current next.left k still) none)
      by_covers (inr (inl here)) = le_trans (greatest_has next.received k found.entry.version fits here) (max_left (greatest next.received k) (ranks scan.entries k))
      by_covers (inr (inr mine)) = le_trans (ranks_has scan.entries k found.entry.version ascends fits mine) (max_right (greatest next.received k) (ranks scan.entries k))

  -- each version of the map that was covered still is
  pub taken_keeps : (k : List ℕ) (v : ℕ) → 0 < v → v ≤ ranks m k → (is_left ask.current ask.left k ≡ false → v ≤ max (greatest ask.received k) (ranks scan.entries k)) → is_left next.current next.left k ≡ false → v ≤ max (greatest next.received k) (ranks scan.entries k)
  taken_keeps k v some low covered none = by_left (is_left ask.current ask.left k) refl
    where
      grows : greatest ask.received k ≤ greatest next.received k
      grows = subst (λ x. greatest ask.received k ≤ x) (sym (greatest_is k)) (max_left (greatest ask.received k) (greatest received.more k))

      found : (ranks m k ≡ 0) ⊎ HasRank m k (ranks m k) → HasRank m k (ranks m k)
      found (inl none) = absurd (not_zero (ranks m k) (above_none v (ranks m k) some low) none)
      found (inr h) = h

      by_left : (b : Bool) → is_left ask.current ask.left k ≡ b → v ≤ max (greatest next.received k) (ranks scan.entries k)
      by_left true left = le_trans low (covered_now k (found (ranks_found m k)) left none)
      by_left false done = le_trans (covered done) (max_more (greatest ask.received k) (greatest next.received k) (ranks scan.entries k) grows)

-- an ask that takes a part of a map counts it
pub taken_counts : (version : TreeVersion) (m n : List Entry) (scan : Scan) (own : Option (List ℕ)) (q : Question) (body : TreeBody) (flag : Bool) (a : Asking) (stage : Stage) → IsPosition version q.position → IsMap m → body ≡ give_of version m q → IsOwn version own scan q.position n → AreApart version m n → Ascends scan.entries
    → (syncs.is_finished (seen_stage stage) ≡ true → (taken version scan own q body a.ask).1.current ≡ None)
    → Counts (ranks m) (ranks scan.entries) flag (seen_ask a) (seen_ask (record { peer = a.peer; ask = (taken version scan own q body a.ask).1; trusted = a.trusted && flag; stage = stage }))
taken_counts version m n scan own q body flag a stage p ok sent is_own apart ascends done = record {
  flagged = refl;
  from = taken_from version m n scan own q body a.ask p ok sent is_own apart ascends;
  keeps = taken_keeps version m n scan own q body a.ask p ok sent is_own apart ascends;
  done = λ h k. none_left (taken version scan own q body a.ask).1.current (taken version scan own q body a.ask).1.left k (done h);
}
