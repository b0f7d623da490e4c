use Rattle.std.proofs.Common.{◌≡◌, ℕ, List, [], ◌∷◌, ◌++◌, append_assoc, ap, ◌∙◌}
use Rattle.std.proofs.lemmas.Result.{on_ok_weaker}
use Rattle.commit_frames.specs.Digits.{digits}
use Rattle.commit_frames.specs.Headers.{front_bytes}
use Rattle.commit_frames.proofs.header.put_front.Goals as goal

-- the pieces, one after the other
joined : (o p q r s t v w a b c d e f : List ℕ) (m n : ℕ) → n ≡ m → p ≡ o ++ n ∷ [] → q ≡ p ++ a → r ≡ q ++ b → s ≡ r ++ c → t ≡ s ++ d → v ≡ t ++ e → w ≡ v ++ f
    → w ≡ o ++ (m ∷ (a ++ (b ++ (c ++ (d ++ (e ++ f))))))
joined o p q r s t v w a b c d e f m n e0 e1 e2 e3 e4 e5 e6 e7 =
    let all : w ≡ ((((((o ++ m ∷ []) ++ a) ++ b) ++ c) ++ d) ++ e) ++ f = cc in
    all ∙ simp append_assoc

pub returns : goal.returns
unfolding front_bytes
returns c =
    on_ok_weaker c.put_digits-6.result
    (λ e. joined c.args.out.now.items c.push.new.self.items c.put_digits.new.out.items c.put_digits-2.new.out.items c.put_digits-3.new.out.items c.put_digits-4.new.out.items c.put_digits-5.new.out.items c.put_digits-6.new.out.items _ _ _ _ _ _ _ _
    c.byte.ensures c.in_ok-push.ensures.items c.in_ok-put_digits.ensures c.in_ok-put_digits-2.ensures c.in_ok-put_digits-3.ensures c.in_ok-put_digits-4.ensures
    (c.in_ok-put_digits-5.ensures ∙ ap (λ (n : ℕ). c.put_digits-4.new.out.items ++ digits 5 n) c.rest_of.ensures) (e ∙ ap (λ (n : ℕ). c.put_digits-5.new.out.items ++ digits 5 n) c.rest_of-2.ensures))
    c.put_digits-6.ensures
