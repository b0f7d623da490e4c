-- Walks along calls and orders, step by step.
use Rattle.std.proofs.Common.{◌≡◌, ℕ, suc, ◌+◌, ◌<◌, ◌≤◌, Bool, true, false, cond, List, [], ◌∷◌, ◌++◌, length, get_or, take, drop, Option, Some, inl, inr, refl, sym, ap, ◌∙◌, arith}
use Rattle.std.specs.Prelude.{◌==◌, ◌&&◌, ◌||◌, not, nat_lt, min, if◌then◌else◌}
use Rattle.std.specs.List.{list_any}
use Rattle.std.specs.BTreeMap.{is_at}
use Rattle.std.specs.Ordering.{is_eq, nat_cmp}
use Rattle.std.proofs.lemmas.Bool.Decides.{nat_tests}
use Rattle.std.proofs.lemmas.List.{drop_more, take_more}
use Rattle.std.proofs.lemmas.Map.Text.{is_eq-slice_cmp}
use Rattle.ens_base.specs.Lists.{is_in, same_bytes, bytes_cmp}
use Rattle.ens_base.proofs.Tests.{at_number, last_or_none}
use Rattle.ens_base.proofs.Lists.{is_in-push}
use Rattle.register_model.specs.declared.answer.Answer.{Answer}
use Rattle.register_model.specs.declared.call.Call.{Call}
use Rattle.register_model.specs.declared.history.History.{History}
use Rattle.history_record.specs.Clauses.{first_amiss_in, first_late, first_stray, ids_on, is_amiss, is_call_on, is_late, was_done_before}
use Rattle.history_record.specs.Lookups.{is_before}
use Rattle.history_record.specs.Faults.{AreFaults, IsFaultOf}
use Rattle.history_record.specs.declared.fault.Fault.{Fault}
use Rattle.history_record.proofs.Lookups.{any_alike}

-- ## The ids of the calls on a key

ids_behind : (calls : List Call) (c : Call) (key : List ℕ) → ids_on (calls ++ c ∷ []) key ≡ ids_on calls key ++ cond (same_bytes c.key key) (c.id ∷ []) []
ids_behind [] c key = refl
ids_behind (d ∷ calls) c key = by_test (same_bytes d.key key) (ids_behind calls c key)
  where
    by_test : (b : Bool) → ids_on (calls ++ c ∷ []) key ≡ ids_on calls key ++ cond (same_bytes c.key key) (c.id ∷ []) []
        → cond b (d.id ∷ ids_on (calls ++ c ∷ []) key) (ids_on (calls ++ c ∷ []) key) ≡ cond b (d.id ∷ ids_on calls key) (ids_on calls key) ++ cond (same_bytes c.key key) (c.id ∷ []) []
    by_test true e = ap (λ zs. d.id ∷ zs) e
    by_test false e = e

-- a call was added: its id comes after those of its key
pub grouped : (calls : List Call) (n : ℕ) (c : Call) (copy key : List ℕ) (id : ℕ) (old new : List ℕ) → n < length calls → c ≡ get_or calls n c → copy ≡ c.key → id ≡ c.id
    → old ≡ ids_on (take n calls) key → new ≡ (if is_eq (bytes_cmp copy key) then old ++ id ∷ [] else old) → new ≡ ids_on (take (n + 1) calls) key
grouped calls n c copy key id old new lt at e f g h =
    let more : take (n + 1) calls ≡ take n calls ++ c ∷ [] = take_more calls n c lt ∙ ap (λ (d : Call). take n calls ++ d ∷ []) (sym at) in
    rw (more, h, e, f, g)
    (ap (λ (b : Bool). cond b (ids_on (take n calls) key ++ c.id ∷ []) (ids_on (take n calls) key)) (is_eq-slice_cmp c.key key)
    ∙ sym (last_or_none (same_bytes c.key key) (ids_on (take n calls) key) c.id) ∙ sym (ids_behind (take n calls) c key))

-- ## The faults of the histories

pub no_fault_more : (calls : List Call) (answers : List Answer) (hs : List History) (faults : List Fault) (h : History) → AreFaults calls answers hs faults → AreFaults calls answers (h ∷ []) [] → AreFaults calls answers (hs ++ h ∷ []) faults
no_fault_more calls answers [] faults h old new = rw old new
no_fault_more calls answers (g ∷ hs) faults h (inl legal) new = inl (legal.0, no_fault_more calls answers hs faults h legal.1 new)
no_fault_more calls answers (g ∷ hs) faults h (inr some) new = inr (some.0, some.1, some.2, some.3, no_fault_more calls answers hs some.1 h some.4 new)

pub one_fault_more : (calls : List Call) (answers : List Answer) (hs : List History) (faults : List Fault) (h : History) (f : Fault) → AreFaults calls answers hs faults → IsFaultOf calls answers h f → AreFaults calls answers (hs ++ h ∷ []) (faults ++ f ∷ [])
one_fault_more calls answers [] faults h f old new = rw old (inr (f, [], refl, new, refl))
one_fault_more calls answers (g ∷ hs) faults h f (inl legal) new = inl (legal.0, one_fault_more calls answers hs faults h f legal.1 new)
one_fault_more calls answers (g ∷ hs) faults h f (inr some) new =
    inr (some.0, some.1 ++ f ∷ [], ap (λ (fs : List Fault). fs ++ f ∷ []) some.2, some.3, one_fault_more calls answers hs some.1 h f some.4 new)

pub few_faults : (calls : List Call) (answers : List Answer) (hs : List History) (faults : List Fault) → AreFaults calls answers hs faults → length faults ≤ length hs
few_faults calls answers [] faults are = let none : length faults ≡ 0 = ap (λ (fs : List Fault). length fs) are in omega arith
few_faults calls answers (h ∷ hs) faults (inl legal) = let rest : length faults ≤ length hs = few_faults calls answers hs faults legal.1 in omega arith
few_faults calls answers (h ∷ hs) faults (inr some) =
    let rest : length some.1 ≤ length hs = few_faults calls answers hs some.1 some.4 in
    let one : length faults ≡ suc (length some.1) = ap (λ (fs : List Fault). length fs) some.2 in
    omega arith

-- ## An order, from its end

pub flip : (a b : ℕ) → (a == b) ≡ (b == a)
flip a b = grind (arith, nat_tests)

twice_not : (x on : Bool) (a b : Option ℕ) → (if not (not x) || not on then a else b) ≡ (if x || not on then a else b)
twice_not true on a b = refl
twice_not false on a b = refl

module _ (calls : List Call) (key order : List ℕ) (m d : ℕ) (lt : m < length order) where
  pub stray_step : (last on : Bool) (found : Option ℕ) → last ≡ not (is_in (drop (m + 1) order) (get_or order m d)) → on ≡ is_call_on calls key (get_or order m d) → found ≡ first_stray calls key (drop (m + 1) order)
      → (if not last || not on then Some (get_or order m d) else found) ≡ first_stray calls key (drop m order)
  stray_step last on found e f g =
      (λ i. if not (e i) || not (f i) then Some (get_or order m d) else g i)
      ∙ twice_not (is_in (drop (m + 1) order) (get_or order m d)) (is_call_on calls key (get_or order m d)) (Some (get_or order m d)) (first_stray calls key (drop (m + 1) order))
      ∙ sym (ap (first_stray calls key) (drop_more order m d lt))

  pub behind_step : (q : ℕ) (old new : Bool) → old ≡ is_in (drop (m + 1) order) q → new ≡ cond (is_at (nat_cmp (get_or order m d)) q) true old → new ≡ is_in (drop m order) q
  behind_step q old new e f =
      f ∙ (λ i. cond ((at_number (get_or order m d) q ∙ flip (get_or order m d) q) i) true (e i)) ∙ or_cond (q == get_or order m d) (is_in (drop (m + 1) order) q)
      ∙ sym (ap (λ (l : List ℕ). is_in l q) (drop_more order m d lt))
    where
      or_cond : (a b : Bool) → cond a true b ≡ (a || b)
      or_cond true b = refl
      or_cond false b = refl

module _ (calls : List Call) (answers : List Answer) (order : List ℕ) (m d : ℕ) (lt : m < length order) where
  pub late_step : (late : Bool) (earliest found : Option ℕ) → late ≡ list_any (λ c. c.id == get_or order m d && is_before earliest c.event) calls
      → ((event : ℕ) → list_any (was_done_before answers event) (drop (m + 1) order) ≡ is_before earliest event) → found ≡ first_late calls answers (drop (m + 1) order)
      → (if late then Some (get_or order m d) else found) ≡ first_late calls answers (drop m order)
  late_step late earliest found e f g =
      let same : list_any (λ c. c.id == get_or order m d && is_before earliest c.event) calls ≡ is_late calls answers (drop (m + 1) order) (get_or order m d) =
      any_alike (λ (c : Call). c.id == get_or order m d && is_before earliest c.event) (λ (c : Call). c.id == get_or order m d && list_any (was_done_before answers c.event) (drop (m + 1) order)) calls
      (λ c. ap (λ (b : Bool). c.id == get_or order m d && b) (sym (f c.event))) in
      (λ i. if (e ∙ same) i then Some (get_or order m d) else g i) ∙ sym (ap (first_late calls answers) (drop_more order m d lt))

  pub earliest_step : (ended earliest next : Option ℕ) → ((event : ℕ) → was_done_before answers event (get_or order m d) ≡ is_before ended event)
      → ((event : ℕ) → list_any (was_done_before answers event) (drop (m + 1) order) ≡ is_before earliest event) → ((event : ℕ) → is_before next event ≡ (is_before ended event || is_before earliest event))
      → (event : ℕ) → list_any (was_done_before answers event) (drop m order) ≡ is_before next event
  earliest_step ended earliest next e f g event =
      ap (λ (l : List ℕ). list_any (was_done_before answers event) l) (drop_more order m d lt) ∙ (λ i. e event i || f event i) ∙ sym (g event)

pub min_before : (a b event : ℕ) → nat_lt (min a b) event ≡ (nat_lt a event || nat_lt b event)
min_before a b event = grind (arith, nat_tests)

-- ## Ids, from the first on

pub set_step : (ids : List ℕ) (n d q : ℕ) → n < length ids → (old new : Bool) → old ≡ is_in (take n ids) q → new ≡ cond (is_at (nat_cmp (get_or ids n d)) q) true old → new ≡ is_in (take (n + 1) ids) q
set_step ids n d q lt old new e f =
    f ∙ (λ i. cond ((at_number (get_or ids n d) q ∙ flip (get_or ids n d) q) i) true (e i)) ∙ or_cond (q == get_or ids n d) (is_in (take n ids) q) ∙ sym (is_in-push (take n ids) (get_or ids n d) q)
    ∙ sym (ap (λ (l : List ℕ). is_in l q) (take_more ids n d lt))
  where
    or_cond : (a b : Bool) → cond a true b ≡ (b || a)
    or_cond true true = refl
    or_cond true false = refl
    or_cond false true = refl
    or_cond false false = refl

module _ (answers : List Answer) (order ids : List ℕ) (n d : ℕ) where
  pub amiss_on : n < length ids → is_amiss answers order (get_or ids n d) ≡ false → first_amiss_in answers order (drop n ids) ≡ first_amiss_in answers order ids → first_amiss_in answers order (drop (n + 1) ids) ≡ first_amiss_in answers order ids
  amiss_on lt e so_far =
      sym (ap (first_amiss_in answers order) (drop_more ids n d lt) ∙ ap (λ (b : Bool). if b then Some (get_or ids n d) else first_amiss_in answers order (drop (n + 1) ids)) e) ∙ so_far
