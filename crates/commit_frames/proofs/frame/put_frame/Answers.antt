use Rattle.std.proofs.Common.{◌≡◌, ℕ, List, ◌++◌, length, ap, ◌∙◌, arith, refl, ◌==◌}
use Rattle.std.proofs.lemmas.Result.{on_ok_weaker}
use Rattle.commit_frames.specs.Digits.{digits}
use Rattle.commit_frames.specs.Headers.{front_bytes, header_bytes, check_of, zeros_in}
use Rattle.std.proofs.lemmas.List.Sums.{count_by-le-length}
use Rattle.commit_frames.proofs.Numbers.{ok_items, on_ok_all}
use Rattle.commit_frames.proofs.frame.put_frame.Goals as goal

pub returns-clause-bytes : goal.returns-clause-bytes
unfolding header_bytes
returns-clause-bytes c =
    let payload = c.args.payload.now in
    let front = front_bytes c.args.mark c.args.serial c.args.first (length payload) (zeros_in payload) in
    let fronts : c.put_front.new.out.items ≡ front =
    c.in_ok-put_front.ensures ∙ ap (λ (l : List ℕ). l ++ front_bytes c.args.mark c.args.serial c.args.first (length payload) c.zeros_of.result) c.clear.ensures.items
    ∙ ap (λ (n : ℕ). front_bytes c.args.mark c.args.serial c.args.first (length payload) n) c.zeros_of.ensures.value in
    let check : c.check_of-check.result ≡ check_of front payload = c.check_of-check.ensures.value ∙ ap (λ (l : List ℕ). check_of l payload) (c.deref.ensures.value ∙ fronts) in
    let head : c.put_digits.new.out.items ≡ front ++ digits 5 (check_of front payload) = c.in_ok-put_digits.ensures ∙ (λ i. fronts i ++ digits 5 (check i)) in
    on_ok_weaker c.extend_from_slice.result (λ e. e ∙ ap (λ (l : List ℕ). l ++ payload) head) (ok_items c.extend_from_slice.result c.extend_from_slice.new.self.items _ _ c.extend_from_slice.ensures.items)

pub returns-clause-frame : goal.returns-clause-frame
returns-clause-frame c =
    let payload = c.args.payload.now in
    let front = front_bytes c.args.mark c.args.serial c.args.first (length payload) (zeros_in payload) in
    let fronts : c.put_front.new.out.items ≡ front =
    c.in_ok-put_front.ensures ∙ ap (λ (l : List ℕ). l ++ front_bytes c.args.mark c.args.serial c.args.first (length payload) c.zeros_of.result) c.clear.ensures.items
    ∙ ap (λ (n : ℕ). front_bytes c.args.mark c.args.serial c.args.first (length payload) n) c.zeros_of.ensures.value in
    let check : c.check_of-check.result ≡ check_of front payload = c.check_of-check.ensures.value ∙ ap (λ (l : List ℕ). check_of l payload) (c.deref.ensures.value ∙ fronts) in
    on_ok_all c.extend_from_slice.result (λ serial first size. record {
      fits = record {
        serial = serial;
        first = first;
        size = size;
        zeros = omega (arith, size, count_by-le-length (λ byte. byte == 0) payload);
        check = omega (arith, check, c.check_of-check.ensures.below);
      };
      whole = record { size = refl; zeros = refl };
      sound = refl;
    })
