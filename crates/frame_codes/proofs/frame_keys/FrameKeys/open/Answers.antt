use Rattle.std.proofs.Common.{◌∙◌, sym}
use Rattle.frame_codes.specs.Seals.{front_of, keys_of, name_of}
use Rattle.frame_codes.proofs.Opening.{opened_is_long, sealed_of_opened, opened_of_sealed}
use Rattle.frame_codes.proofs.frame_keys.FrameKeys.open.Goals as goal

pub slice_bounds-result-count : goal.slice_bounds-result-count
slice_bounds-result-count c = opened_is_long (name_of c.args.self.now.ensemble) c.args.bytes.now (keys_of c.args.self.now.file) (sym c.fits.ensures ∙ c.if-fits.true)

pub returns-then-fits-clause-sealed : goal.returns-then-fits-clause-sealed
returns-then-fits-clause-sealed c = sealed_of_opened c.args.self.now (front_of c.args.bytes.now) c.args.bytes.now (rw (sym c.fits.ensures ∙ c.if-fits.true))

pub returns-else-fits-clause-none : goal.returns-else-fits-clause-none
returns-else-fits-clause-none c frame is = let e = opened_of_sealed c.args.self.now frame c.args.bytes.now is in absurd (cc (rw (sym c.fits.ensures ∙ c.if-fits.false) at e))
