-- A sync asks other members of its view alone.
use Rattle.std.specs.Prelude.{◌≢◌, ◌==◌, not, All, slice_get, slice_set, if◌then◌else◌}
use Rattle.ens_base.specs.Lists.{is_in}
use Rattle.std.proofs.Common.{◌≡◌, ◌+◌, ◌≤◌, ℕ, zero, suc, Bool, true, false, List, [], ◌∷◌, Option, Some, refl, sym, subst, arith, lit≤}
use Rattle.std.proofs.lemmas.Bool.{and_parts}
use Rattle.std.proofs.lemmas.Bool.Decides.{nat_tests}
use Rattle.std.proofs.lemmas.List.Elements.{All-nil, All-cons, All-append, All-map, All-set, All-weaker}
use Rattle.std.proofs.lemmas.Option.{slice_get_within, get_or_from_slice_get}
use Rattle.tree_node.specs.TreeVersions.{levels}
use Rattle.tree_node.specs.declared.version.TreeVersion.{TreeVersion}
use Rattle.tree_node.specs.declared.body.Scan.{Scan}
use Rattle.tree_exchange.specs.Asked.{Asked}
use Rattle.tree_exchange.specs.Asks.{taken}
use Rattle.tree_exchange.specs.declared.step.Step.{Step}
use Rattle.tree_exchange.specs.declared.step.Step.TheVariants as steps
use Rattle.tree_sync.specs.Asks.{anew, is_open, is_finished, is_other, asks_up_to, asks_of, after_step, stepped, answered, resumed}
use Rattle.tree_sync.specs.Rows.{row_take, row_resume}
use Rattle.tree_sync.specs.Running.{Running}
use Rattle.tree_sync.specs.Sends.{IsOfOther, AsksOthers}
use Rattle.tree_sync.specs.declared.asking.Asking.{Asking}
use Rattle.tree_sync.specs.declared.asking.Give.{Give}
use Rattle.tree_sync.specs.declared.asking.Stage.TheVariants.{Open}
use Rattle.tree_sync.proofs.InTree.{IsInTree, started_places, taken_places}
use Rattle.tree_sync.proofs.Walking.{ask_after, sync_after, by_take, finished_keeps}

one_ask : (me : ℕ) (view : List ℕ) (n : ℕ) → n + 1 ≤ 31 → (t : Bool) → is_other me view (n + 1) ≡ t → All (IsOfOther me view) (if t then anew Open (n + 1) ∷ [] else [])
one_ask me view n le true e = All-cons (IsOfOther me view) (anew Open (n + 1)) [] ask (All-nil (IsOfOther me view))
  where
    not_me : (p : ℕ) → not (p == me) ≡ true → p ≢ me
    not_me p h = grind (arith, nat_tests)

    ask : IsOfOther me view (anew Open (n + 1))
    ask =
        let parts = and_parts (is_in view (n + 1)) (not (n + 1 == me)) e in
        record { peer = (omega arith, le); member = parts.0; other = not_me (n + 1) parts.1; places = started_places }
one_ask me view n le false e = All-nil (IsOfOther me view)

new_asks : (me : ℕ) (view : List ℕ) (n : ℕ) → n ≤ 31 → All (IsOfOther me view) (asks_up_to (is_other me view) n)
unfolding asks_up_to
new_asks me view zero le = All-nil (IsOfOther me view)
new_asks me view (suc n) le = All-append (IsOfOther me view) (asks_up_to (is_other me view) n) _ (new_asks me view n (omega (arith, le))) (one_ask me view n (omega (arith, le)) (is_other me view (n + 1)) refl)

-- the asks of a sync that starts
pub asks_are : (me : ℕ) (view : List ℕ) → All (IsOfOther me view) (asks_of me view)
asks_are me view = new_asks me view 31 (lit≤ tt)

resumed_is : (me : ℕ) (view : List ℕ) (a : Asking) → IsOfOther me view a → IsOfOther me view (resumed a)
resumed_is me view a h = by (is_finished a.stage)
  where
    by : (b : Bool) → IsOfOther me view (if b then a else record a { stage = Open })
    by true = h
    by false = record { peer = h.peer; member = h.member; other = h.other; places = h.places }

-- the asks of a sync that resumes
pub resumed_are : (me : ℕ) (r : Running) → AsksOthers me r → AsksOthers me (row_resume r).0
resumed_are me r h = All-map (IsOfOther me r.sync.view) resumed r.asks (All-weaker (IsOfOther me r.sync.view) (λ a. IsOfOther me r.sync.view (resumed a)) (resumed_is me r.sync.view) r.asks h)

stepped_is : (me : ℕ) (view : List ℕ) (step : Step) (flag : Bool) (ask : Asked) (a : Asking) → IsOfOther me view a → IsInTree ask → IsOfOther me view (after_step step flag (record a { ask = ask }))
stepped_is me view steps.Next flag ask a h p = record { peer = h.peer; member = h.member; other = h.other; places = p }
stepped_is me view steps.Done flag ask a h p = record { peer = h.peer; member = h.member; other = h.other; places = p }
stepped_is me view steps.Dropped flag ask a h p = record { peer = h.peer; member = h.member; other = h.other; places = started_places }
stepped_is me view steps.Ignored flag ask a h p = record { peer = h.peer; member = h.member; other = h.other; places = p }

answered_is : (tree : TreeVersion) (me : ℕ) (view : List ℕ) (scan : Scan) (own : Option (List ℕ)) (give : Give) (a : Asking) → give.question.position.level ≤ levels tree → IsOfOther me view a → IsOfOther me view (answered tree scan own give a).1
answered_is tree me view scan own give a p h = by (is_open a.stage)
  where
    next : Step × Asked
    next = taken tree scan own give.question give.body a.ask

    by : (b : Bool) → IsOfOther me view (if b then stepped give.trusted next a else (steps.Ignored, a)).1
    by true = stepped_is me view next.0 give.trusted next.1 a h (taken_places tree scan own give.question give.body a.ask p h.places)
    by false = h

pub ask_is : (me : ℕ) (r : Running) (place : ℕ) (a : Asking) → AsksOthers me r → slice_get r.asks place ≡ Some a → IsOfOther me r.sync.view a
ask_is me r place a h e = subst (IsOfOther me r.sync.view) (get_or_from_slice_get r.asks place a a e) (h place a (slice_get_within r.asks place a e))

-- the ask at a place after it took an answer
pub after_is : (tree : TreeVersion) (me : ℕ) (give : Give) (own : Option (List ℕ)) (r : Running) → give.question.position.level ≤ levels tree → AsksOthers me r → (place : ℕ) (a : Asking) → slice_get r.asks place ≡ Some a → IsOfOther me r.sync.view (ask_after tree give own a r)
after_is tree me give own r p h place a e = answered_is tree me r.sync.view r.sync.scan own give a p (ask_is me r place a h e)

-- the asks of a sync that took an answer
pub taken_are : (tree : TreeVersion) (me from : ℕ) (give : Give) (own : Option (List ℕ)) (r : Running) → give.question.position.level ≤ levels tree → AsksOthers me r → AsksOthers me (row_take tree from give own r).0
taken_are tree me from give own r p h = by_take (λ x. AsksOthers me x.0) tree from give own r (record {
  none = h;
  kept = kept;
  next = kept;
  done = λ place a e. let b = ask_after tree give own a r in
      subst (λ (view : List ℕ). All (IsOfOther me view) (slice_set r.asks place b)) (sym (finished_keeps b.peer b.trusted b.ask.received r.sync).1) (kept place a e);
})
  where
    kept : (place : ℕ) (a : Asking) → slice_get r.asks place ≡ Some a → AsksOthers me (sync_after tree place give own a r)
    kept place a e = All-set (IsOfOther me r.sync.view) r.asks place (ask_after tree give own a r) (after_is tree me give own r p h place a e) h
