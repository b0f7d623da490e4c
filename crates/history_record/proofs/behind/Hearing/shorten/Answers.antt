use Rattle.std.proofs.Common.{◌≡◌, ◌+◌, ◌-◌, [], ◌∷◌, List, ℕ, None, Some, length, get_or, sym, ap, ◌∙◌, rules, arith}
use Rattle.register_model.specs.declared.history.History.{History}
use Rattle.history_record.specs.Clauses.{first_stray}
use Rattle.history_record.specs.Calls.{calls_from}
use Rattle.history_record.specs.Telling.{Heard}
use Rattle.history_record.proofs.Shortening.{last_kept, last_set, short_sound}
use Rattle.history_record.proofs.behind.Hearing.shorten.Goals as goal

pub invariant_of-self : goal.invariant_of-self
invariant_of-self c =
    let i = c.self.inside in
    let hs = i.histories.items in
    let m : ℕ = c.len-count.result - 1 in
    let len : length hs ≡ m + 1 = omega (arith, c.len-count.ensures, c.if-count-eq0.false) in
    let at : c.index-last.result.now ≡ get_or hs m c.index-last.result.now = search rules in
    let also : c.index_mut.result.now ≡ get_or hs m c.index_mut.result.now = search rules in
    let calls : c.as_slice-calls.result.now ≡ calls_from 1 i.schedule.events = c.as_slice-calls.ensures.value ∙ c.self.invariant.2.are in
    let stray : first_stray (calls_from 1 i.schedule.events) c.index-last.result.now.key c.index-last.result.now.calls ≡ Some c.in-Some.id = rw (← calls, ← c.as_slice-order.ensures) (sym c.in_ok-id.ensures.found ∙ c.in-Some.is) in
    let ids : c.new.result ≡ c.in-Some.id ∷ c.in-Some.id ∷ [] = search rules in
    let set = last_set (calls_from 1 i.schedule.events) hs m c.in-Some.id c.index-last.result.now c.index_mut.result.now c.new.result len at also ids stray in
    let kept = c.self.invariant.1 in
    (short_sound _ c.self.invariant.0 _ set, record { calls = kept.calls; changes = kept.changes; few = kept.few }, record { are = c.self.invariant.2.are; places = c.self.invariant.2.places })

pub returns-in_ok-ids-clause-last : goal.returns-in_ok-ids-clause-last
returns-in_ok-ids-clause-last c =
    let i = c.self.inside in
    let hs = i.histories.items in
    let m : ℕ = c.len-count.result - 1 in
    let len : length hs ≡ m + 1 = omega (arith, c.len-count.ensures, c.if-count-eq0.false) in
    let at : c.index-last.result.now ≡ get_or hs m c.index-last.result.now = search rules in
    let also : c.index_mut.result.now ≡ get_or hs m c.index_mut.result.now = search rules in
    let calls : c.as_slice-calls.result.now ≡ calls_from 1 i.schedule.events = c.as_slice-calls.ensures.value ∙ c.self.invariant.2.are in
    let stray : first_stray (calls_from 1 i.schedule.events) c.index-last.result.now.key c.index-last.result.now.calls ≡ Some c.in-Some.id = rw (← calls, ← c.as_slice-order.ensures) (sym c.in_ok-id.ensures.found ∙ c.in-Some.is) in
    let ids : c.new.result ≡ c.in-Some.id ∷ c.in-Some.id ∷ [] = search rules in
    let set = last_set (calls_from 1 i.schedule.events) hs m c.in-Some.id c.index-last.result.now c.index_mut.result.now c.new.result len at also ids stray in
    let told : List History → Heard = λ l. record { lines = i.lines; schedule = i.schedule; answers = i.answers.items; changes = i.changes.items; latest = i.latest; histories = l; keys = i.keys.keys } in
    rw (← c.self.view_is) (ap told set)

pub returns-in_default-clause-last : goal.returns-in_default-clause-last
returns-in_default-clause-last c =
    let i = c.self.inside in
    let hs = i.histories.items in
    let m : ℕ = c.len-count.result - 1 in
    let len : length hs ≡ m + 1 = omega (arith, c.len-count.ensures, c.if-count-eq0.false) in
    let at : c.index-last.result.now ≡ get_or hs m c.index-last.result.now = search rules in
    let calls : c.as_slice-calls.result.now ≡ calls_from 1 i.schedule.events = c.as_slice-calls.ensures.value ∙ c.self.invariant.2.are in
    let none : c.in_ok-id.field-0 ≡ None = search rules in
    let clear : first_stray (calls_from 1 i.schedule.events) c.index-last.result.now.key c.index-last.result.now.calls ≡ None = rw (← calls, ← c.as_slice-order.ensures) (sym c.in_ok-id.ensures.found ∙ none) in
    let told : List History → Heard = λ l. record { lines = i.lines; schedule = i.schedule; answers = i.answers.items; changes = i.changes.items; latest = i.latest; histories = l; keys = i.keys.keys } in
    rw (← c.self.view_is) (ap told (last_kept (calls_from 1 i.schedule.events) hs m c.index-last.result.now len at clear))
