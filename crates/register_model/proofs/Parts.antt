-- A history among more calls and answers.
use Rattle.std.proofs.Common.{◌≡◌, ℕ, zero, suc, List, [], ◌∷◌, Some, inl, inr, refl, sym, subst}
use Rattle.std.specs.Prelude.{slice_get}
use Rattle.ens_base.specs.Lists.{◌∈◌}
use Rattle.ens_base.specs.declared.epoch.Version.{Version}
use Rattle.register_model.specs.Histories.{IsLegal, MayHave, RunsFrom}
use Rattle.register_model.specs.Registers.{stamps_after}
use Rattle.register_model.specs.declared.answer.Answer.{Answer}
use Rattle.register_model.specs.declared.call.Call.{Call}
use Rattle.register_model.specs.declared.register.Register.{Register}
use Rattle.register_model.specs.declared.register.Register.TheVariants.{Absent}
use Rattle.register_model.specs.Parts.{ArePart}

-- an item at a place is an item
got_is_in : (xs : List ℕ) (p x : ℕ) → slice_get xs p ≡ Some x → x ∈ xs
got_is_in [] p x h = cc h
got_is_in (y ∷ ys) zero x h = let same : y ≡ x = cc h in inl (sym same)
got_is_in (y ∷ ys) (suc p) x h = inr (got_is_in ys p x h)

module _ (calls more_calls : List Call) (answers more_answers : List Answer) (key whole : List ℕ) (part : ArePart calls answers more_calls more_answers key whole) where
  -- the calls of the history stand among all
  runs : (stamps : List Version) (old : Register) (order : List ℕ) → ((id : ℕ) → id ∈ order → id ∈ whole) → RunsFrom calls answers stamps old order → RunsFrom more_calls more_answers stamps old order
  runs stamps old [] within h = tt
  runs stamps old (id ∷ rest) within (call, reply, new, there, same, may, steps, later) =
      (call, reply, new, part.among call there, same, may_have, steps, runs (stamps_after reply stamps) new rest (λ i m. within i (inr m)) later)
    where
      may_have : MayHave more_answers id reply
      may_have a answered is done =
          let In : ℕ → Type 0 = λ i. i ∈ whole in
          may a (part.answered a answered (subst In (sym is) (within id (inl refl)))) is done

  pub legal_among : IsLegal calls answers key whole → IsLegal more_calls more_answers key whole
  legal_among legal = record {
    once = legal.once;
    of_key = λ id m. let c = legal.of_key id m in (c.0, part.among c.0 c.1, c.2, c.3);
    completed = λ c a called answered same on done. let both = part.completed c a called answered same on done in legal.completed c a both.0 both.1 same on done;
    refused = λ a answered rejected there. legal.refused a (part.answered a answered there) rejected there;
    run = runs [] Absent whole (λ id m. m) legal.run;
    in_time = λ a c answered called done before p q at_p at_q.
        let first = part.answered a answered (got_is_in whole p a.id at_p) in
        let second = part.called c called (got_is_in whole q c.id at_q) in
        legal.in_time a c first second done before p q at_p at_q;
  }
