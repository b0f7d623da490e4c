use Rattle.std.proofs.Common.{◌≡◌, ◌∙◌, ◌++◌, ◌-◌, sym, ap, arith, length, take, drop}
use Rattle.ens_base.proofs.Tests.{same_test}
use Rattle.frame_codes.specs.Hmac.{hmac}
use Rattle.frame_codes.specs.Seals.{front_of}
use Rattle.frame_codes.proofs.Opening.{test_is_short, test_of_code, code_of_test}
use Rattle.frame_codes.proofs.frame_key.FrameKey.opens.Goals as goal

pub returns-then-bytes-lt-CODE_LENGTH : goal.returns-then-bytes-lt-CODE_LENGTH
returns-then-bytes-lt-CODE_LENGTH c = sym (test_is_short c.args.name.now c.args.self.now c.args.bytes.now (omega arith))

pub returns : goal.returns
returns c =
    let name = c.args.name.now in
    let key = c.args.self.now in
    let bytes = c.args.bytes.now in
    let code : c.code.result ≡ take 16 (hmac key (name ++ front_of bytes)) = c.code.ensures ∙ ap (λ f. take 16 (hmac key (name ++ f))) c.split_at.ensures.front in
    let back : c.split_at.result.1.now ≡ drop (length bytes - 16) bytes = c.split_at.ensures.back in
    same_test c.is_same.result _ (λ e. test_of_code name key bytes (omega arith) (sym code ∙ c.is_same.ensures.0 e ∙ back)) (λ t. c.is_same.ensures.1 (code ∙ code_of_test name key bytes (omega arith) t ∙ sym back))
