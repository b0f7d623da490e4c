-- A record is read back.
use Rattle.std.proofs.Common.{◌≡◌, ℕ, ◌+◌, ◌<◌, ◌^◌, Bool, true, List, ◌++◌, length, Option, Some, None, refl, ap, ◌∙◌, arith, length-append}
use Rattle.std.specs.Prelude.{nat_le, if◌then◌else◌}
use Rattle.std.specs.Int.{w32, from_be_bytes, to_be_bytes}
use Rattle.std.proofs.lemmas.Nat.{from_be_bytes-to_be_bytes_4}
use Rattle.std.proofs.lemmas.Bool.Decides.{nat_tests}
use Rattle.commit_frames.specs.Records.{kind_byte, kind_in, record_bytes, shape_with, shape_in}
use Rattle.commit_frames.specs.declared.record.RecordKind.{RecordKind}
use Rattle.commit_frames.specs.declared.record.RecordKind.TheVariants.{Node, Top, Object, Fact, Host}
use Rattle.commit_frames.specs.declared.record.Shape.{Shape}

kind_back : (kind : RecordKind) → kind_in (kind_byte kind) ≡ Some kind
kind_back Node = refl
kind_back Top = refl
kind_back Object = refl
kind_back Fact = refl
kind_back Host = refl

pub read_record : (kind : RecordKind) (name content rest : List ℕ) → length content < 2 ^ 32 → shape_in (record_bytes kind name content ++ rest) ≡ Some (record { kind = kind; name = length name; content = length content })
read_record kind name content rest small =
    let tail = (name ++ content) ++ rest in
    let shape : Shape = record { kind = kind; name = length name; content = length content } in
    let fits : nat_le (length name + length content) (length tail) ≡ true = grind (arith, nat_tests, length-append (name ++ content) rest, length-append name content) in
    ap (λ (o : Option RecordKind). shape_with o (length name) (from_be_bytes w32 (to_be_bytes w32 (length content))) tail) (kind_back kind)
    ∙ ap (λ (n : ℕ). shape_with (Some kind) (length name) n tail) (from_be_bytes-to_be_bytes_4 (length content) small)
    ∙ ap (λ (b : Bool). if b then Some shape else None) fits
