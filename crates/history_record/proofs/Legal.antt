-- A history is legal exactly if it violates no clause.
use Rattle.std.proofs.Common.{◌≡◌, ℕ, zero, suc, ◌<◌, ◌≤◌, Bool, true, false, List, [], ◌∷◌, map, Option, None, Some, inl, inr, ◌⊎◌, refl, sym, ap, subst, ◌∙◌, arith}
use Rattle.std.specs.Prelude.{◌==◌, ◌&&◌, ◌||◌, not, nat_lt, slice_get, if◌then◌else◌}
use Rattle.std.specs.List.{list_any}
use Rattle.std.proofs.lemmas.Bool.{eq-eqb, or_cases, or_parts, not-false, not-true, and_parts, lt-ltb, ltb-true, eqb-true, or_right, or_left, not_from_false, and_from}
use Rattle.ens_base.specs.Lists.{◌∈◌, AreDistinct, is_in, same_bytes}
use Rattle.ens_base.proofs.Lists.{bytes_same, bytes_itself, in_tested, tested_in}
use Rattle.ens_base.proofs.Tests.{apart}
use Rattle.register_model.specs.Histories.{IsDone, IsRefused, is_done, is_refused, StandsBefore, IsLegal}
use Rattle.register_model.specs.declared.answer.Answer.{Answer}
use Rattle.register_model.specs.declared.call.Call.{Call}
use Rattle.register_model.proofs.ReplyTests.{done_is, refused_is}
use Rattle.register_checker.proofs.Runs.{stops_no_run}
use Rattle.history_record.specs.Clauses.{was_done, was_refused, was_done_before, is_call_on, ids_on, first_stray, is_amiss, first_amiss_in, first_amiss, is_late, first_late, KeepsThree, IsFault}
use Rattle.history_record.proofs.Lookups.{item_any, any_item}

if_none : (b : Bool) (x : ℕ) (o : Option ℕ) → (if b then Some x else o) ≡ None → (b ≡ false) × (o ≡ None)
if_none true x o h = absurd cc
if_none false x o h = (refl, h)

module _ (calls : List Call) (answers : List Answer) (key : List ℕ) where
  -- ## What the tests mean

  abbrev CallOn : ℕ → Type 0
  CallOn id = (c : Call) × (c ∈ calls) × (c.id ≡ id) × (c.key ≡ key)

  call_on : (id : ℕ) → is_call_on calls key id ≡ true → CallOn id
  call_on id h =
      let c = any_item (λ c. c.id == id && same_bytes c.key key) calls h in
      let parts = and_parts (c.0.id == id) (same_bytes c.0.key key) c.2 in
      (c.0, c.1, eqb-true c.0.id id parts.0, bytes_same c.0.key key parts.1)

  on_call : (id : ℕ) (c : Call) → c ∈ calls → c.id ≡ id → c.key ≡ key → is_call_on calls key id ≡ true
  on_call id c there named on =
      item_any (λ (d : Call). d.id == id && same_bytes d.key key) calls c there
      (and_from (c.id == id) (same_bytes c.key key) (eq-eqb c.id id named) (subst (λ (k : List ℕ). same_bytes c.key k ≡ true) on (bytes_itself c.key)))

  done_of : (id : ℕ) → was_done answers id ≡ true → (a : Answer) × (a ∈ answers) × (a.id ≡ id) × IsDone a.reply
  done_of id h =
      let a = any_item (λ a. a.id == id && is_done a.reply) answers h in
      let parts = and_parts (a.0.id == id) (is_done a.0.reply) a.2 in
      (a.0, a.1, eqb-true a.0.id id parts.0, (done_is a.0.reply).0 parts.1)

  of_done : (id : ℕ) (a : Answer) → a ∈ answers → a.id ≡ id → IsDone a.reply → was_done answers id ≡ true
  of_done id a there named done =
      item_any (λ (b : Answer). b.id == id && is_done b.reply) answers a there (and_from (a.id == id) (is_done a.reply) (eq-eqb a.id id named) ((done_is a.reply).1 done))

  refused_of : (id : ℕ) → was_refused answers id ≡ true → (a : Answer) × (a ∈ answers) × (a.id ≡ id) × IsRefused a.reply
  refused_of id h =
      let a = any_item (λ a. a.id == id && is_refused a.reply) answers h in
      let parts = and_parts (a.0.id == id) (is_refused a.0.reply) a.2 in
      (a.0, a.1, eqb-true a.0.id id parts.0, (refused_is a.0.reply).0 parts.1)

  of_refused : (id : ℕ) (a : Answer) → a ∈ answers → a.id ≡ id → IsRefused a.reply → was_refused answers id ≡ true
  of_refused id a there named refused =
      item_any (λ (b : Answer). b.id == id && is_refused b.reply) answers a there (and_from (a.id == id) (is_refused a.reply) (eq-eqb a.id id named) ((refused_is a.reply).1 refused))

  -- ## Clause 1

  stray_none : (order : List ℕ) → first_stray calls key order ≡ None → AreDistinct order × ((id : ℕ) → id ∈ order → is_call_on calls key id ≡ true)
  stray_none [] h = (tt, λ id there. absurd there)
  stray_none (x ∷ rest) h =
      let parts = if_none (is_in rest x || not (is_call_on calls key x)) x (first_stray calls key rest) h in
      let tests = or_parts (is_in rest x) (not (is_call_on calls key x)) parts.0 in
      let later = stray_none rest parts.1 in
      let on : (id : ℕ) → id ∈ (x ∷ rest) → is_call_on calls key id ≡ true = at (not-false (is_call_on calls key x) tests.1) later.1 in
      ((λ there. apart (is_in rest x) (tested_in rest x there) tests.0, later.0), on)
    where
      at : is_call_on calls key x ≡ true → ((id : ℕ) → id ∈ rest → is_call_on calls key id ≡ true) → (id : ℕ) → id ∈ (x ∷ rest) → is_call_on calls key id ≡ true
      at here later id (inl e) = ap (is_call_on calls key) e ∙ here
      at here later id (inr there) = later id there

  stray_some : (order : List ℕ) (id : ℕ) → first_stray calls key order ≡ Some id → AreDistinct order → ((i : ℕ) → i ∈ order → is_call_on calls key i ≡ true) → ⊥
  stray_some [] id h distinct on = cc
  stray_some (x ∷ rest) id h distinct on = by (is_in rest x) (is_call_on calls key x) refl refl h (λ k. stray_some rest id k distinct.1 (λ i there. on i (inr there)))
    where
      by : (a b : Bool) → is_in rest x ≡ a → is_call_on calls key x ≡ b → (if a || not b then Some x else first_stray calls key rest) ≡ Some id → (first_stray calls key rest ≡ Some id → ⊥) → ⊥
      by true b e f k later = distinct.0 (in_tested rest x e)
      by false true e f k later = later k
      by false false e f k later = apart (is_call_on calls key x) (on x (inl refl)) f

  -- ## Clause 2

  ids_there : (list : List Call) (c : Call) → c ∈ list → c.key ≡ key → c.id ∈ ids_on list key
  ids_there [] c there on = there
  ids_there (d ∷ list) c (inl e) on =
      let here : same_bytes d.key key ≡ true = subst (λ (k : List ℕ). same_bytes d.key k ≡ true) (ap (λ (x : Call). x.key) (sym e) ∙ on) (bytes_itself d.key) in
      rw here (inl (ap (λ (x : Call). x.id) e))
  ids_there (d ∷ list) c (inr there) on = by (same_bytes d.key key) (ids_there list c there on)
    where
      by : (b : Bool) → c.id ∈ ids_on list key → c.id ∈ (if b then d.id ∷ ids_on list key else ids_on list key)
      by true m = inr m
      by false m = m

  of_ids : (list : List Call) (id : ℕ) → id ∈ ids_on list key → (c : Call) × (c ∈ list) × (c.id ≡ id) × (c.key ≡ key)
  of_ids [] id there = absurd there
  of_ids (d ∷ list) id there = by (same_bytes d.key key) refl there (of_ids list id)
    where
      by : (b : Bool) → same_bytes d.key key ≡ b → id ∈ (if b then d.id ∷ ids_on list key else ids_on list key) → (id ∈ ids_on list key → (c : Call) × (c ∈ list) × (c.id ≡ id) × (c.key ≡ key)) → (c : Call) × (c ∈ (d ∷ list)) × (c.id ≡ id) × (c.key ≡ key)
      by true e (inl is) rest = (d, inl refl, sym is, bytes_same d.key key e)
      by true e (inr m) rest = let c = rest m in (c.0, inr c.1, c.2, c.3)
      by false e m rest = let c = rest m in (c.0, inr c.1, c.2, c.3)

  amiss_none : (order ids : List ℕ) → first_amiss_in answers order ids ≡ None → (id : ℕ) → id ∈ ids → is_amiss answers order id ≡ false
  amiss_none order [] h id there = absurd there
  amiss_none order (x ∷ ids) h id (inl e) = ap (is_amiss answers order) e ∙ (if_none (is_amiss answers order x) x (first_amiss_in answers order ids) h).0
  amiss_none order (x ∷ ids) h id (inr there) = amiss_none order ids (if_none (is_amiss answers order x) x (first_amiss_in answers order ids) h).1 id there

  amiss_some : (order ids : List ℕ) (id : ℕ) → first_amiss_in answers order ids ≡ Some id → (id ∈ ids) × (is_amiss answers order id ≡ true)
  amiss_some order [] id h = absurd cc
  amiss_some order (x ∷ ids) id h = by (is_amiss answers order x) refl h (amiss_some order ids id)
    where
      by : (b : Bool) → is_amiss answers order x ≡ b → (if b then Some x else first_amiss_in answers order ids) ≡ Some id → (first_amiss_in answers order ids ≡ Some id → (id ∈ ids) × (is_amiss answers order id ≡ true)) → (id ∈ (x ∷ ids)) × (is_amiss answers order id ≡ true)
      by true e k rest = let same : x ≡ id = cc in (inl (sym same), ap (is_amiss answers order) (sym same) ∙ e)
      by false e k rest = let found = rest k in (inr found.0, found.1)

  module _ (order : List ℕ) (fine : first_amiss calls answers key order ≡ None) where
    completed : (c : Call) (a : Answer) → c ∈ calls → a ∈ answers → a.id ≡ c.id → c.key ≡ key → IsDone a.reply → c.id ∈ order
    completed c a there given named on done = by (is_in order c.id) refl
      where
        none : is_amiss answers order c.id ≡ false
        none = amiss_none order (ids_on calls key) fine c.id (ids_there calls c there on)

        by : (b : Bool) → is_in order c.id ≡ b → c.id ∈ order
        by true e = in_tested order c.id e
        by false e =
            absurd (apart (is_amiss answers order c.id)
            (or_left (was_done answers c.id && not (is_in order c.id)) (was_refused answers c.id && is_in order c.id)
            (and_from (was_done answers c.id) (not (is_in order c.id)) (of_done c.id a given named done) (not_from_false (is_in order c.id) e))) none)

    refused : ((id : ℕ) → id ∈ order → is_call_on calls key id ≡ true) → (a : Answer) → a ∈ answers → IsRefused a.reply → ¬ (a.id ∈ order)
    refused on a given refuses there =
        let c = call_on a.id (on a.id there) in
        let among : a.id ∈ ids_on calls key = subst (λ (i : ℕ). i ∈ ids_on calls key) c.2 (ids_there calls c.0 c.1 c.3) in
        apart (is_amiss answers order a.id)
        (or_right (was_done answers a.id && not (is_in order a.id)) (was_refused answers a.id && is_in order a.id)
        (and_from (was_refused answers a.id) (is_in order a.id) (of_refused a.id a given refl refuses) (tested_in order a.id there)))
        (amiss_none order (ids_on calls key) fine a.id among)

  amiss_wrong : (order : List ℕ) (id : ℕ) → first_amiss calls answers key order ≡ Some id → ((c : Call) (a : Answer) → c ∈ calls → a ∈ answers → a.id ≡ c.id → c.key ≡ key → IsDone a.reply → c.id ∈ order)
      → ((a : Answer) → a ∈ answers → IsRefused a.reply → ¬ (a.id ∈ order)) → ⊥
  amiss_wrong order id h complete refuse =
      let found = amiss_some order (ids_on calls key) id h in
      let c = of_ids calls id found.0 in
      by c (or_cases (was_done answers id && not (is_in order id)) (was_refused answers id && is_in order id) found.1)
    where
      by : (c : Call) × (c ∈ calls) × (c.id ≡ id) × (c.key ≡ key) → ((was_done answers id && not (is_in order id)) ≡ true) ⊎ ((was_refused answers id && is_in order id) ≡ true) → ⊥
      by c (inl e) =
          let parts = and_parts (was_done answers id) (not (is_in order id)) e in
          let a = done_of id parts.0 in
          let there : id ∈ order = subst (λ (i : ℕ). i ∈ order) c.2 (complete c.0 a.0 c.1 a.1 (a.2 ∙ sym c.2) c.3 a.3) in
          apart (is_in order id) (tested_in order id there) (not-true (is_in order id) parts.1)
      by c (inr e) =
          let parts = and_parts (was_refused answers id) (is_in order id) e in
          let a = refused_of id parts.0 in
          refuse a.0 a.1 a.3 (subst (λ (i : ℕ). i ∈ order) (sym a.2) (in_tested order id parts.1))

  -- ## Clause 4

  late_test : (rest : List ℕ) (c : Call) (a : Answer) → c ∈ calls → a ∈ answers → IsDone a.reply → a.event < c.event → a.id ∈ rest → is_late calls answers rest c.id ≡ true
  late_test rest c a there given done before among =
      let earlier : was_done_before answers c.event a.id ≡ true =
      item_any (λ (b : Answer). b.id == a.id && (is_done b.reply && nat_lt b.event c.event)) answers a given
      (and_from (a.id == a.id) (is_done a.reply && nat_lt a.event c.event) (eq-eqb a.id a.id refl) (and_from (is_done a.reply) (nat_lt a.event c.event) ((done_is a.reply).1 done) (lt-ltb a.event c.event before))) in
      item_any (λ (d : Call). d.id == c.id && list_any (was_done_before answers d.event) rest) calls c there
      (and_from (c.id == c.id) (list_any (was_done_before answers c.event) rest) (eq-eqb c.id c.id refl) (item_any (was_done_before answers c.event) rest a.id among earlier))

  abbrev Late : List ℕ → ℕ → Type 0
  Late rest id = (c : Call) × (a : Answer) × (c ∈ calls) × (a ∈ answers) × (c.id ≡ id) × IsDone a.reply × (a.event < c.event) × (a.id ∈ rest)

  tested_late : (rest : List ℕ) (id : ℕ) → is_late calls answers rest id ≡ true → Late rest id
  tested_late rest id h =
      let c = any_item (λ c. c.id == id && list_any (was_done_before answers c.event) rest) calls h in
      let parts = and_parts (c.0.id == id) (list_any (was_done_before answers c.0.event) rest) c.2 in
      let j = any_item (was_done_before answers c.0.event) rest parts.1 in
      let a = any_item (λ a. a.id == j.0 && (is_done a.reply && nat_lt a.event c.0.event)) answers j.2 in
      let named = and_parts (a.0.id == j.0) (is_done a.0.reply && nat_lt a.0.event c.0.event) a.2 in
      let given = and_parts (is_done a.0.reply) (nat_lt a.0.event c.0.event) named.1 in
      (c.0, a.0, c.1, a.1, eqb-true c.0.id id parts.0, (done_is a.0.reply).0 given.0, ltb-true a.0.event c.0.event given.1, subst (λ (i : ℕ). i ∈ rest) (sym (eqb-true a.0.id j.0 named.0)) j.1)

  at_place : (rest : List ℕ) (p id : ℕ) → slice_get rest p ≡ Some id → id ∈ rest
  at_place [] p id h = absurd cc
  at_place (x ∷ rest) zero id h = let same : x ≡ id = cc in inl (sym same)
  at_place (x ∷ rest) (suc p) id h = inr (at_place rest p id h)

  place_of : (rest : List ℕ) (id : ℕ) → id ∈ rest → (p : ℕ) × (slice_get rest p ≡ Some id)
  place_of [] id there = absurd there
  place_of (x ∷ rest) id (inl e) = (0, ap (λ (y : ℕ). Some y) (sym e))
  place_of (x ∷ rest) id (inr there) = let p = place_of rest id there in (suc p.0, p.1)

  abbrev InTime : List ℕ → Type 0
  InTime order = (a : Answer) (c : Call) → a ∈ answers → c ∈ calls → IsDone a.reply → a.event < c.event → StandsBefore order a.id c.id

  late_none : (in_order : (a : Answer) (c : Call) → a ∈ answers → c ∈ calls → a.id ≡ c.id → c.event ≤ a.event) (order : List ℕ) → first_late calls answers order ≡ None → InTime order
  late_none in_order [] h a c given there done before p q i j = absurd cc
  late_none in_order (x ∷ rest) h a c given there done before zero zero i j =
      let same : a.id ≡ c.id = (let e : x ≡ a.id = cc in let f : x ≡ c.id = cc in sym e ∙ f) in
      absurd (let late : c.event ≤ a.event = in_order a c given there same in omega arith)
  late_none in_order (x ∷ rest) h a c given there done before zero (suc q) i j = omega arith
  late_none in_order (x ∷ rest) h a c given there done before (suc p) zero i j =
      let named : x ≡ c.id = cc in
      let none = (if_none (is_late calls answers rest x) x (first_late calls answers rest) h).0 in
      absurd (apart (is_late calls answers rest c.id) (late_test rest c a there given done before (at_place rest p a.id i)) (ap (is_late calls answers rest) (sym named) ∙ none))
  late_none in_order (x ∷ rest) h a c given there done before (suc p) (suc q) i j =
      let less : p < q = late_none in_order rest (if_none (is_late calls answers rest x) x (first_late calls answers rest) h).1 a c given there done before p q i j in
      omega arith

  late_some : (order : List ℕ) (id : ℕ) → first_late calls answers order ≡ Some id → InTime order → ⊥
  late_some [] id h in_time = cc
  late_some (x ∷ rest) id h in_time = by (is_late calls answers rest x) refl h (λ k. late_some rest id k (λ a c given there done before p q i j. shorter p q (in_time a c given there done before (suc p) (suc q) i j)))
    where
      shorter : (p q : ℕ) → suc p < suc q → p < q
      shorter p q less = omega arith

      by : (b : Bool) → is_late calls answers rest x ≡ b → (if b then Some x else first_late calls answers rest) ≡ Some id → (first_late calls answers rest ≡ Some id → ⊥) → ⊥
      by false e k later = later k
      by true e k later =
          let late = tested_late rest x e in
          let p = place_of rest late.1.id late.7 in
          let less : suc p.0 < 0 = in_time late.1 late.0 late.3 late.2 late.5 late.6 (suc p.0) 0 p.1 (ap (λ (y : ℕ). Some y) (sym late.4)) in
          omega arith

  -- ## All clauses

  pub legal : (order : List ℕ) (in_order : (a : Answer) (c : Call) → a ∈ answers → c ∈ calls → a.id ≡ c.id → c.event ≤ a.event) → KeepsThree calls answers key order → first_late calls answers order ≡ None
      → IsLegal calls answers key order
  legal order in_order keeps late =
      let one = stray_none order keeps.0.0 in
      record {
        once = one.0;
        of_key = λ id there. call_on id (one.1 id there);
        completed = completed order keeps.0.1;
        refused = refused order keeps.0.1 one.1;
        run = keeps.1;
        in_time = late_none in_order order late;
      }

  pub illegal : (order : List ℕ) (clause id : ℕ) → AreDistinct (map (λ c. c.id) calls) → IsFault calls answers key order clause id → ¬ (IsLegal calls answers key order)
  illegal order clause id distinct (inl one) is = stray_some order id one.1 is.once (λ i there. let c = is.of_key i there in on_call i c.0 c.1 c.2 c.3)
  illegal order clause id distinct (inr (inl two)) is = amiss_wrong order id two.2 is.completed is.refused
  illegal order clause id distinct (inr (inr (inl three))) is = stops_no_run calls answers distinct order three.2.0 three.2.2 is.run
  illegal order clause id distinct (inr (inr (inr four))) is = late_some order id four.2 is.in_time
