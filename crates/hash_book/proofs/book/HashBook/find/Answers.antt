use Rattle.std.proofs.Common.{rules, sym}
use Rattle.hash_book.proofs.Lookups.{found, missing}
use Rattle.hash_book.proofs.book.HashBook.find.Goals as goal

pub returns-in-Some-clause-found : goal.returns-in-Some-clause-found
returns-in-Some-clause-found c =
    rw c.as_slice.ensures.value (found _ c.args.digest.now (λ x. search rules) (λ x. search rules) _ c.in-Some.v.now c.args.self.now.keyed (sym c.in-Some.ensures.value))

pub returns-in-None-clause-none : goal.returns-in-None-clause-none
returns-in-None-clause-none c = missing _ _ (λ x. search rules) (λ x. search rules) _ c.args.self.now.keyed (sym c.in-None.ensures.value)
