-- A legal history of calls that are completed one after another.
use Rattle.std.proofs.Common.{◌≡◌, ◌⊎◌, ◌<◌, ℕ, Bool, true, false, List, [], ◌∷◌, ◌++◌, inl, inr, refl, ap, sym, ◌∙◌, subst}
use Rattle.std.specs.Prelude.{if◌then◌else◌}
use Rattle.ens_base.specs.Lists.{◌∈◌, same_bytes}
use Rattle.ens_base.proofs.Lists.{bytes_same, bytes_itself, in_append}
use Rattle.register_model.specs.Histories.{IsDone, IsLegal, StandsBefore}
use Rattle.register_model.specs.declared.answer.Answer.{Answer}
use Rattle.register_model.specs.declared.call.Call.{Call}
use Rattle.register_model.specs.Served.{BeginAfter, AreServed, ids_on}
use Rattle.register_model.proofs.Ordered.{AllBefore, same_order}

-- a call on the key with this id
record Named (key : List ℕ) (calls : List Call) (id : ℕ) : Type 0 where
  call : Call
  listed : call ∈ calls
  named : call.id ≡ id
  keyed : call.key ≡ key

later : (key : List ℕ) (c : Call) (calls : List Call) (id : ℕ) → Named key calls id → Named key (c ∷ calls) id
later key c calls id n = record { call = n.call; listed = inr n.listed; named = n.named; keyed = n.keyed }

-- an id of the list is that of a call on the key
named : (key : List ℕ) (calls : List Call) (id : ℕ) → id ∈ ids_on key calls → Named key calls id
named key [] id is = absurd is
named key (c ∷ calls) id is = by (same_bytes c.key key) refl is (λ more. later key c calls id (named key calls id more)) where
  by : (b : Bool) → same_bytes c.key key ≡ b → id ∈ (if b then c.id ∷ ids_on key calls else ids_on key calls) → (id ∈ ids_on key calls → Named key (c ∷ calls) id) → Named key (c ∷ calls) id
  by true same (inl e) rest = record { call = c; listed = inl refl; named = sym e; keyed = bytes_same c.key key same }
  by true same (inr more) rest = rest more
  by false other more rest = rest more

-- and the id of each call on the key is in the list
listed : (key : List ℕ) (calls : List Call) (c : Call) → c ∈ calls → c.key ≡ key → c.id ∈ ids_on key calls
listed key [] c is keyed = absurd is
listed key (d ∷ calls) c (inl e) keyed =
    let same : same_bytes d.key key ≡ true = subst (λ (k : List ℕ). same_bytes d.key k ≡ true) (ap (λ (z : Call). z.key) (sym e) ∙ keyed) (bytes_itself d.key) in
    rw same (inl (ap (λ (z : Call). z.id) e))
listed key (d ∷ calls) c (inr more) keyed = by (same_bytes d.key key) (listed key calls c more keyed) where
  by : (b : Bool) → c.id ∈ ids_on key calls → c.id ∈ (if b then d.id ∷ ids_on key calls else ids_on key calls)
  by true rest = inr rest
  by false rest = rest

-- the completed answer to a call
pub record Answered (answers : List Answer) (c : Call) : Type 0 where
  pub answer : Answer
  pub given : answer ∈ answers
  pub named : answer.id ≡ c.id
  pub done : IsDone answer.reply

pub served : (calls : List Call) (answers : List Answer) → AreServed calls answers → (c : Call) → c ∈ calls → Answered answers c
served [] answers all c is = absurd is
served (d ∷ calls) [] all c is = absurd all
served (d ∷ calls) (a ∷ answers) all c (inl e) = record { answer = a; given = inl refl; named = all.0 ∙ ap (λ (z : Call). z.id) (sym e); done = all.1 }
served (d ∷ calls) (a ∷ answers) all c (inr more) = let s = served calls answers all.3 c more in record { answer = s.answer; given = inr s.given; named = s.named; done = s.done }

module _ (calls : List Call) (answers : List Answer) (key order : List ℕ) (legal : IsLegal calls answers key order) where
  head : (c : Call) (cs : List Call) (a : Answer) (b : Bool) → a.id ≡ c.id → a ∈ answers → IsDone a.reply → BeginAfter a.event cs → ((d : Call) → d ∈ cs → d ∈ calls) → AllBefore order (ids_on key cs) → AllBefore order (if b then c.id ∷ ids_on key cs else ids_on key cs)
  head c cs a false id given done after sub rest = rest
  head c cs a true id given done after sub rest = (first, rest) where
    first : (j : ℕ) → j ∈ ids_on key cs → StandsBefore order c.id j
    first j is =
        let n = named key cs j is in
        subst (λ (i : ℕ). StandsBefore order i j) id (subst (λ (i : ℕ). StandsBefore order a.id i) n.named (legal.in_time a n.call given (sub n.call n.listed) done (after n.call n.listed)))

  in_order : (cs : List Call) (given : List Answer) → AreServed cs given → ((c : Call) → c ∈ cs → c ∈ calls) → ((a : Answer) → a ∈ given → a ∈ answers) → AllBefore order (ids_on key cs)
  in_order [] rest all sub of = tt
  in_order (c ∷ cs) [] all sub of = absurd all
  in_order (c ∷ cs) (a ∷ rest) all sub of =
      head c cs a (same_bytes c.key key) all.0 (of a (inl refl)) all.1 all.2 (λ d is. sub d (inr is)) (in_order cs rest all.3 (λ d is. sub d (inr is)) (λ b is. of b (inr is)))

  pub calm_order : AreServed calls answers → order ≡ ids_on key calls
  calm_order all = same_order (ids_on key calls) order legal.once goes comes (in_order calls answers all (λ c is. is) (λ a is. is)) where
    goes : (id : ℕ) → id ∈ ids_on key calls → id ∈ order
    goes id is =
        let n = named key calls id is in
        let s = served calls answers all n.call n.listed in
        subst (λ (i : ℕ). i ∈ order) n.named (legal.completed n.call s.answer n.listed s.given s.named n.keyed s.done)

    comes : (id : ℕ) → id ∈ order → id ∈ ids_on key calls
    comes id is =
        let o = legal.of_key id is in
        subst (λ (i : ℕ). i ∈ ids_on key calls) o.2 (listed key calls o.0 o.1 o.3)

-- one more call, which began after all answers so far, is completed
pub served_more : (calls : List Call) (answers : List Answer) (c : Call) (a : Answer) → AreServed calls answers → ((b : Answer) → b ∈ answers → b.event < c.event) → a.id ≡ c.id → IsDone a.reply → AreServed (calls ++ c ∷ []) (answers ++ a ∷ [])
served_more [] [] c a all after id done = (id, done, (λ d none. absurd none), tt)
served_more [] (b ∷ answers) c a all after id done = absurd all
served_more (d ∷ calls) [] c a all after id done = absurd all
served_more (d ∷ calls) (b ∷ answers) c a all after id done = (all.0, all.1, begins, served_more calls answers c a all.3 (λ e is. after e (inr is)) id done) where
  begins : BeginAfter b.event (calls ++ c ∷ [])
  begins e is = by (in_append calls (c ∷ []) e is) where
    by : (e ∈ calls) ⊎ (e ∈ (c ∷ [])) → b.event < e.event
    by (inl old) = all.2 e old
    by (inr (inl new)) = subst (λ (z : Call). b.event < z.event) (sym new) (after b (inl refl))
    by (inr (inr none)) = absurd none
