-- How numbers, versions and bytes are written as words of a text.
use Rattle.std.specs.Prelude.{ℕ, List, [], ◌∷◌, ◌++◌, codes}
use Rattle.std.specs.Fmt.{decimal}
use Rattle.hex.specs.Hex.{encode_lower}
use Rattle.ens_base.specs.declared.epoch.Epoch.{Epoch}
use Rattle.ens_base.specs.declared.epoch.Version.{Version}

-- bytes, as pairs of lower-case hexadecimal digits
abbrev pub bytes_word : List ℕ → List ℕ
bytes_word bytes = encode_lower bytes

-- a value: its bytes in hexadecimal, or a dash if it is empty
abbrev pub value_word : List ℕ → List ℕ
value_word [] = codes "-"
value_word (byte ∷ rest) = encode_lower (byte ∷ rest)

-- count.proposer
abbrev pub epoch_word : Epoch → List ℕ
epoch_word e = decimal e.count ++ codes "." ++ decimal e.proposer

-- count.proposer.seq
abbrev pub version_word : Version → List ℕ
version_word v = epoch_word v.epoch ++ codes "." ++ decimal v.seq
