-- A history under other numbers of events.
use Rattle.std.proofs.Common.{◌≡◌, ℕ, ◌<◌, ◌⊎◌, List, [], ◌∷◌, map, inl, inr, sym, ap, subst, ◌∙◌, arith}
use Rattle.std.proofs.lemmas.Bool.{cases_order}
use Rattle.ens_base.specs.Lists.{◌∈◌}
use Rattle.ens_base.specs.declared.epoch.Version.{Version}
use Rattle.ens_base.specs.declared.reply.Reply.{Reply}
use Rattle.ens_base.proofs.Lists.{in-map, from_map}
use Rattle.register_model.specs.Histories.{IsDone, IsLegal, IsRefused, MayHave, RunsFrom, StandsBefore}
use Rattle.register_model.specs.Registers.{stamps_after}
use Rattle.register_model.specs.declared.answer.Answer.{Answer}
use Rattle.register_model.specs.declared.call.Call.{Call}
use Rattle.register_model.specs.declared.register.Register.{Register}
use Rattle.register_model.specs.declared.register.Register.TheVariants.{Absent}
use Rattle.register_model.specs.Parts.{RiseWith, numbered_answer, numbered_call}

module _ (number : ℕ → ℕ) (calls : List Call) (answers : List Answer) where
  abbrev Calls : List Call
  Calls = map (numbered_call number) calls

  abbrev Answers : List Answer
  Answers = map (numbered_answer number) answers

  -- an answer under its number was given before
  answer_of : (a : Answer) → a ∈ Answers → (b : Answer) × (b ∈ answers) × (a ≡ numbered_answer number b)
  answer_of a h = from_map (numbered_answer number) answers a h

  call_of : (c : Call) → c ∈ Calls → (d : Call) × (d ∈ calls) × (c ≡ numbered_call number d)
  call_of c h = from_map (numbered_call number) calls c h

  may_have : (id : ℕ) (reply : Reply) → MayHave answers id reply → MayHave Answers id reply
  may_have id reply may a there same done =
      let b = answer_of a there in
      let id_same : b.0.id ≡ id = sym (ap (λ (x : Answer). x.id) b.2) ∙ same in
      let reply_same : a.reply ≡ b.0.reply = ap (λ (x : Answer). x.reply) b.2 in
      may b.0 b.1 id_same (subst IsDone reply_same done) ∙ sym reply_same

  runs : (stamps : List Version) (old : Register) (order : List ℕ) → RunsFrom calls answers stamps old order → RunsFrom Calls Answers stamps old order
  runs stamps old [] h = tt
  runs stamps old (id ∷ rest) (call, reply, new, there, same, may, steps, later) =
      (numbered_call number call, reply, new, in-map (numbered_call number) calls call there, same, may_have id reply may, steps, runs (stamps_after reply stamps) new rest later)

  pub numbered_legal : (most : ℕ) (key order : List ℕ) → RiseWith number most calls answers → IsLegal calls answers key order → IsLegal Calls Answers key order
  numbered_legal most key order rises legal = record {
    once = legal.once;
    of_key = λ id m. let c = legal.of_key id m in (numbered_call number c.0, in-map (numbered_call number) calls c.0 c.1, c.2, c.3);
    completed = completed;
    refused = refused;
    run = runs [] Absent order legal.run;
    in_time = in_time;
  }
    where
      -- what is earlier by the new numbers was earlier before
      earlier : (a : Answer) (c : Call) → a ∈ answers → c ∈ calls → number a.event < number c.event → a.event < c.event
      earlier a c answered called h = by (cases_order a.event c.event)
        where
          by : (a.event ≡ c.event) ⊎ ((a.event < c.event) ⊎ (c.event < a.event)) → a.event < c.event
          by (inl same) = let numbers : number a.event ≡ number c.event = ap number same in absurd (omega arith)
          by (inr (inl before)) = before
          by (inr (inr behind)) =
              let numbers : number c.event < number a.event = rises.rise c.event a.event (rises.first c called) behind (rises.last a answered) in
              absurd (omega arith)

      completed : (c : Call) (a : Answer) → c ∈ Calls → a ∈ Answers → a.id ≡ c.id → c.key ≡ key → IsDone a.reply → c.id ∈ order
      completed c a called answered same on done =
          let d = call_of c called in
          let b = answer_of a answered in
          let ids : b.0.id ≡ d.0.id = sym (ap (λ (x : Answer). x.id) b.2) ∙ same ∙ ap (λ (x : Call). x.id) d.2 in
          let keys : d.0.key ≡ key = sym (ap (λ (x : Call). x.key) d.2) ∙ on in
          let there : d.0.id ∈ order = legal.completed d.0 b.0 d.1 b.1 ids keys (subst IsDone (ap (λ (x : Answer). x.reply) b.2) done) in
          let In : ℕ → Type 0 = λ id. id ∈ order in
          subst In (sym (ap (λ (x : Call). x.id) d.2)) there

      refused : (a : Answer) → a ∈ Answers → IsRefused a.reply → ¬ (a.id ∈ order)
      refused a answered rejected there =
          let b = answer_of a answered in
          let In : ℕ → Type 0 = λ id. id ∈ order in
          legal.refused b.0 b.1 (subst IsRefused (ap (λ (x : Answer). x.reply) b.2) rejected) (subst In (ap (λ (x : Answer). x.id) b.2) there)

      in_time : (a : Answer) (c : Call) → a ∈ Answers → c ∈ Calls → IsDone a.reply → a.event < c.event → StandsBefore order a.id c.id
      in_time a c answered called done before =
          let d = call_of c called in
          let b = answer_of a answered in
          let events : number b.0.event < number d.0.event = rw (← ap (λ (x : Answer). x.event) b.2, ← ap (λ (x : Call). x.event) d.2) before in
          let stands = legal.in_time b.0 d.0 b.1 d.1 (subst IsDone (ap (λ (x : Answer). x.reply) b.2) done) (earlier b.0 d.0 b.1 d.1 events) in
          rw (ap (λ (x : Answer). x.id) b.2, ap (λ (x : Call). x.id) d.2) stands
