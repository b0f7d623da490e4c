-- Whether a history is legal depends on which calls and answers there are, and not on their order.
use Rattle.std.proofs.Common.{ℕ, List, [], ◌∷◌}
use Rattle.std.specs.Prelude.{◌↔◌}
use Rattle.ens_base.specs.Lists.{◌∈◌}
use Rattle.ens_base.specs.declared.epoch.Version.{Version}
use Rattle.register_model.specs.declared.call.Call.{Call}
use Rattle.register_model.specs.declared.answer.Answer.{Answer}
use Rattle.register_model.specs.declared.register.Register.{Register}
use Rattle.register_model.specs.declared.register.Register.TheVariants.{Absent}
use Rattle.register_model.specs.Histories.{RunsFrom, IsLegal}
use Rattle.register_model.specs.Registers.{stamps_after}

module _ (calls others : List Call) (answers fewer : List Answer) (same : (c : Call) → c ∈ calls ↔ c ∈ others) (given : (a : Answer) → a ∈ fewer → a ∈ answers) where
  runs_fewer : (stamps : List Version) (old : Register) (order : List ℕ) → RunsFrom calls answers stamps old order → RunsFrom others fewer stamps old order
  runs_fewer stamps old [] r = tt
  runs_fewer stamps old (id ∷ rest) r = (r.0, r.1, r.2, (same r.0).0 r.3, r.4, λ a m. r.5 a (given a m), r.6, runs_fewer (stamps_after r.1 stamps) r.2 rest r.7)

  -- a history that is legal is so for fewer answers too
  pub legal_fewer : (key : List ℕ) (order : List ℕ) → IsLegal calls answers key order → IsLegal others fewer key order
  legal_fewer key order legal = record {
    once = legal.once;
    of_key = λ id m. let c = legal.of_key id m in (c.0, (same c.0).0 c.1, c.2, c.3);
    completed = λ c a h m. legal.completed c a ((same c).1 h) (given a m);
    refused = λ a m. legal.refused a (given a m);
    run = runs_fewer [] Absent order legal.run;
    in_time = λ a c m h. legal.in_time a c (given a m) ((same c).1 h);
  }

-- a history that is legal is so for every list of the same calls and every list of the same answers
pub legal_same : (calls others : List Call) (answers given : List Answer) → ((c : Call) → c ∈ calls ↔ c ∈ others) → ((a : Answer) → a ∈ answers ↔ a ∈ given) → (key : List ℕ) (order : List ℕ) → IsLegal calls answers key order → IsLegal others given key order
legal_same calls others answers given same_calls same_answers = legal_fewer calls others answers given same_calls (λ a m. (same_answers a).1 m)
