-- A key that is only opened and looked at takes one value.
use Rattle.std.proofs.Common.{◌≡◌, ℕ, ◌⊎◌, List, [], ◌∷◌, map, Some, None, inl, inr, refl, sym, ap, subst, ◌∙◌}
use Rattle.ens_base.specs.Lists.{◌∈◌, AreDistinct}
use Rattle.ens_base.specs.declared.command.Command.{Command}
use Rattle.ens_base.specs.declared.command.Command.TheVariants.{Get, PutOnce}
use Rattle.ens_base.specs.declared.epoch.Version.{Version}
use Rattle.ens_base.specs.declared.reply.Reply.{Reply}
use Rattle.ens_base.proofs.Lists.{in-map}
use Rattle.register_model.specs.Histories.{IsDone, IsLegal, MayHave, RunsFrom}
use Rattle.register_model.specs.Registers.{Steps, stamps_after}
use Rattle.register_model.specs.declared.answer.Answer.{Answer}
use Rattle.register_model.specs.declared.call.Call.{Call}
use Rattle.register_model.specs.declared.register.Register.{Register}
use Rattle.register_model.specs.declared.register.Register.TheVariants.{Absent, Present}
use Rattle.register_model.specs.Openings.{AreOpenings, HaveOneValue, IsOpening, told}

-- calls with one id are one
pub one_call : (calls : List Call) (c d : Call) → AreDistinct (map (λ (x : Call). x.id) calls) → c ∈ calls → d ∈ calls → c.id ≡ d.id → c ≡ d
one_call [] c d apart p q e = absurd p
one_call (x ∷ xs) c d apart (inl p) (inl q) e = p ∙ sym q
one_call (x ∷ xs) c d apart (inl p) (inr q) e =
    let In : ℕ → Type 0 = λ i. i ∈ map (λ (x : Call). x.id) xs in
    let same : d.id ≡ x.id = sym e ∙ ap (λ (y : Call). y.id) p in
    absurd (apart.0 (subst In same (in-map (λ (y : Call). y.id) xs d q)))
one_call (x ∷ xs) c d apart (inr p) (inl q) e =
    let In : ℕ → Type 0 = λ i. i ∈ map (λ (x : Call). x.id) xs in
    let same : c.id ≡ x.id = e ∙ ap (λ (y : Call). y.id) q in
    absurd (apart.0 (subst In same (in-map (λ (y : Call). y.id) xs c p)))
one_call (x ∷ xs) c d apart (inr p) (inr q) e = one_call xs c d apart.1 p q e

-- an answer that tells a value completes its call
told_done : (command : Command) (reply : Reply) (bytes : List ℕ) → told command reply ≡ Some bytes → IsDone reply
told_done (PutOnce value) (Reply.Ok stamp) bytes h = tt
told_done Get (Reply.Value stamp found) bytes h = tt
told_done _ _ bytes h = cc

-- what one step on a register that has a value tells
step_present : (stamps : List Version) (stamp : Version) (value : List ℕ) (command : Command) (reply : Reply) (new : Register) → IsOpening command → Steps stamps (Present stamp value) command reply new
    → (new ≡ Present stamp value) × ((bytes : List ℕ) → told command reply ≡ Some bytes → bytes ≡ value)
step_present stamps stamp value Get reply new opens (is, stays) = (stays, λ bytes h. by bytes (rw is at h))
  where
    by : (bytes : List ℕ) → told Get (Reply.Value stamp value) ≡ Some bytes → bytes ≡ value
    by bytes h = cc h
step_present stamps stamp value (PutOnce other) reply new opens (is, stays) = (stays, λ bytes h. by bytes (rw is at h))
  where
    by : (bytes : List ℕ) → told (PutOnce other) Reply.Failed ≡ Some bytes → bytes ≡ value
    by bytes h = cc h
step_present stamps stamp value _ reply new opens steps = absurd opens

-- one step on an absent register: it stays absent and tells nothing, or it has a value, which it tells
step_absent : (stamps : List Version) (command : Command) (reply : Reply) (new : Register) → IsOpening command → Steps stamps Absent command reply new
    → ((new ≡ Absent) × (told command reply ≡ None)) ⊎ ((stamp : Version) × (value : List ℕ) × (new ≡ Present stamp value) × (told command reply ≡ Some value))
step_absent stamps Get reply new opens (is, stays) = inl (stays, ap (told Get) is)
step_absent stamps (PutOnce value) reply new opens (stamp, is, fresh, becomes) = inr (stamp, value, becomes, ap (told (PutOnce value)) is)
step_absent stamps _ reply new opens steps = absurd opens

module _ (calls : List Call) (answers : List Answer) (key : List ℕ) (apart : AreDistinct (map (λ (x : Call). x.id) calls)) (opens : AreOpenings calls key) where
  -- every answer to one of these calls that tells a value tells this one
  Tell : List ℕ → List ℕ → Type 0
  Tell order value = (c : Call) (a : Answer) (bytes : List ℕ) → c ∈ calls → a ∈ answers → a.id ≡ c.id → c.id ∈ order → told c.command a.reply ≡ Some bytes → bytes ≡ value

  OnKey : List ℕ → Type 0
  OnKey order = (id : ℕ) → id ∈ order → (c : Call) × (c ∈ calls) × (c.id ≡ id) × (c.key ≡ key)

  -- the call of a step opens
  opening : (id : ℕ) (rest : List ℕ) (call : Call) → OnKey (id ∷ rest) → call ∈ calls → call.id ≡ id → IsOpening call.command
  unfolding OnKey
  opening id rest call on there same =
      let c = on id (inl refl) in
      let one : call ≡ c.0 = one_call calls call c.0 apart there c.1 (same ∙ sym c.2) in
      opens call there (ap (λ (x : Call). x.key) one ∙ c.3)

  -- the answer to the call of a step is the reply of the step, if it tells a value
  answered : (id : ℕ) (call c : Call) (reply : Reply) (a : Answer) (bytes : List ℕ) → call ∈ calls → call.id ≡ id → MayHave answers id reply → c ∈ calls → a ∈ answers → a.id ≡ c.id → c.id ≡ id
      → told c.command a.reply ≡ Some bytes → told call.command reply ≡ Some bytes
  answered id call c reply a bytes there same may called given ids is h =
      let one : call ≡ c = one_call calls call c apart there called (same ∙ sym is) in
      let replies : reply ≡ a.reply = may a given (ids ∙ is) (told_done c.command a.reply bytes h) in
      ap (λ (x : Call). told x.command reply) one ∙ ap (told c.command) replies ∙ h

  behind : (id : ℕ) (rest : List ℕ) → OnKey (id ∷ rest) → OnKey rest
  unfolding OnKey
  behind id rest on i m = on i (inr m)

  -- with a value, the register keeps it
  present : (stamps : List Version) (stamp : Version) (value : List ℕ) (old : Register) (order : List ℕ) → old ≡ Present stamp value → OnKey order → RunsFrom calls answers stamps old order → Tell order value
  unfolding Tell
  present stamps stamp value old [] is on h c a bytes called given ids m tells = absurd m
  present stamps stamp value old (id ∷ rest) is on (call, reply, new, there, same, may, steps, later) c a bytes called given ids m tells =
      by m (λ more. present (stamps_after reply stamps) stamp value new rest step.0 (behind id rest on) later c a bytes called given ids more tells)
    where
      step : (new ≡ Present stamp value) × ((b : List ℕ) → told call.command reply ≡ Some b → b ≡ value)
      step =
          let From : Register → Type 0 = λ r. Steps stamps r call.command reply new in
          step_present stamps stamp value call.command reply new (opening id rest call on there same) (subst From is steps)

      by : (c.id ≡ id) ⊎ (c.id ∈ rest) → (c.id ∈ rest → bytes ≡ value) → bytes ≡ value
      by (inl first) further = step.1 bytes (answered id call c reply a bytes there same may called given ids first tells)
      by (inr more) further = further more

  -- from the absent register on, the first opening that is answered decides
  absent : (stamps : List Version) (old : Register) (order : List ℕ) → old ≡ Absent → OnKey order → RunsFrom calls answers stamps old order → (value : List ℕ) × Tell order value
  unfolding Tell
  absent stamps old [] is on h = ([], λ c a bytes called given ids m tells. absurd m)
  absent stamps old (id ∷ rest) is on (call, reply, new, there, same, may, steps, later) = by step (λ none. absent (stamps_after reply stamps) new rest none (behind id rest on) later)
    where
      step : ((new ≡ Absent) × (told call.command reply ≡ None)) ⊎ ((stamp : Version) × (value : List ℕ) × (new ≡ Present stamp value) × (told call.command reply ≡ Some value))
      step =
          let From : Register → Type 0 = λ r. Steps stamps r call.command reply new in
          step_absent stamps call.command reply new (opening id rest call on there same) (subst From is steps)

      by : ((new ≡ Absent) × (told call.command reply ≡ None)) ⊎ ((stamp : Version) × (value : List ℕ) × (new ≡ Present stamp value) × (told call.command reply ≡ Some value))
          → (new ≡ Absent → (value : List ℕ) × Tell rest value) → (value : List ℕ) × Tell (id ∷ rest) value
      by (inl (none, silent)) further =
          let value = further none in (
            value.0,
            λ c a bytes called given ids m tells. elim m [
              | inl first ↦
                  let nothing : told call.command reply ≡ Some bytes = answered id call c reply a bytes there same may called given ids first tells in
                  absurd (cc (nothing, silent))
              | inr more ↦ value.1 c a bytes called given ids more tells
            ],
          )
      by (inr (stamp, value, has, tells_it)) further =
          let others = present (stamps_after reply stamps) stamp value new rest has (behind id rest on) later in (
            value,
            λ c a bytes called given ids m tells. elim m [
              | inl first ↦
                  let this : told call.command reply ≡ Some bytes = answered id call c reply a bytes there same may called given ids first tells in
                  let both : Some bytes ≡ Some value = sym this ∙ tells_it in
                  cc both
              | inr more ↦ others c a bytes called given ids more tells
            ],
          )

  pub one_value : (order : List ℕ) → IsLegal calls answers key order → HaveOneValue calls answers key
  unfolding Tell OnKey
  one_value order legal =
      let value = absent [] Absent order refl legal.of_key legal.run in
      (value.0, λ c a bytes called given ids on tells. value.1 c a bytes called given ids (legal.completed c a called given ids on (told_done c.command a.reply bytes tells)) tells)
