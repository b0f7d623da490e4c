use Rattle.std.proofs.Common.{◌∙◌, length, ap, sym, ℕ, List}
use Rattle.std.specs.Prelude.{count_ones}
use Rattle.synctree.specs.TreeNode.{inner_spelling}
use Rattle.synctree.proofs.Formats.{mask_ones}
use Rattle.synctree.proofs.Puts.{inner_text_is}
use Rattle.synctree.proofs.encoding.encode_inner.Goals as goal

pub encode-requires-clause-each : goal.encode-requires-clause-each
encode-requires-clause-each c = ap (λ (ds : List (List ℕ)). length ds) (c.in-Ok.ensures).ok ∙ mask_ones c.args.children.now ∙ ap (λ (m : ℕ). count_ones m) (sym c.mask.ensures)

pub returns-in-Ok-encode : goal.returns-in-Ok-encode
returns-in-Ok-encode c = c.in-Ok-encode.ensures.ok ∙ (λ i. inner_spelling (record { version = c.args.version; position = c.args.at; mask = c.mask.ensures i; digests = (c.in-Ok.ensures).ok i })) ∙ sym (inner_text_is c.args.version c.args.at c.args.children.now)
