use Rattle.std.proofs.Common.{◌≡◌, ◌∙◌, ◌∷◌, [], ◌++◌, rules, ◌+◌, ℕ, ap, length}
use Rattle.indexmap.proofs.CallerLemmas.{insert_entry-new}
use Rattle.hash_book.proofs.Lookups.{absent, total-push, strings_of-push, IsKeyed-push}
use Rattle.hash_book.proofs.ClashFree.{free_push}
use Rattle.hash_book.specs.Hashing.{total}
use Rattle.hash_book.specs.Kept.{strings_of}
use Rattle.ens_base.specs.contracts.digest.DigestPartialEq.TheImpl.{eq-value}
use Rattle.hash_book.proofs.book.HashBook.keep.Goals as goal

pub returns-clause-ok : goal.returns-clause-ok
returns-clause-ok c = rw (← c.in_ok-copy.ensures.items) (strings_of-push c.args.self.now.kept.entries _ c.args.digest.now c.in_ok-copy.copy grown)
  where
    grown : c.insert.new.self.entries ≡ c.args.self.now.kept.entries ++ (c.args.digest.now, c.in_ok-copy.copy) ∷ []
    grown = c.in_ok-insert.ensures.entries ∙ insert_entry-new eq-value.it c.args.self.now.kept c.args.digest.now c.in_ok-copy.copy
        (absent (eq-value.it c.args.digest.now) c.args.digest.now (λ x. search rules) (λ x. search rules) _ c.args.self.now.keyed (rw c.requires.digest c.requires.fresh))

pub invariant_of-self-2 : goal.invariant_of-self-2
invariant_of-self-2 c = record {
  keyed = IsKeyed-push c.args.self.now.kept.entries _ c.args.digest.now c.in_ok-copy.copy grown c.args.self.now.keyed (rw c.in_ok-copy.ensures.items c.requires.digest);
  counted = counts;
  free = rw strings (rw c.in_ok-copy.ensures.items (free_push _ c.args.bytes.now c.args.self.now.free c.requires.fresh));
}
  where
    grown : c.insert.new.self.entries ≡ c.args.self.now.kept.entries ++ (c.args.digest.now, c.in_ok-copy.copy) ∷ []
    grown = c.in_ok-insert.ensures.entries ∙ insert_entry-new eq-value.it c.args.self.now.kept c.args.digest.now c.in_ok-copy.copy
        (absent (eq-value.it c.args.digest.now) c.args.digest.now (λ x. search rules) (λ x. search rules) _ c.args.self.now.keyed (rw c.requires.digest c.requires.fresh))

    strings : strings_of c.insert.new.self.entries ≡ strings_of c.args.self.now.kept.entries ++ c.in_ok-copy.copy.items ∷ []
    strings = strings_of-push c.args.self.now.kept.entries _ c.args.digest.now c.in_ok-copy.copy grown

    counts : c.args.self.now.bytes + length c.args.bytes.now ≡ total (strings_of c.insert.new.self.entries)
    counts = rw strings (rw (total-push, c.in_ok-copy.ensures.items) (ap (λ (n : ℕ). n + length c.args.bytes.now) c.args.self.now.counted))
