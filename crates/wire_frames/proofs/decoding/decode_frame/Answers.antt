use Rattle.std.proofs.Common.{subst, arith}
use Rattle.wire_frames.specs.Frames.{Answers}
use Rattle.wire_frames.proofs.FrameLaws.{frame_found, frame_again}
use Rattle.wire_frames.proofs.Obeying.{frame_obeys}
use Rattle.wire_frames.proofs.decoding.decode_frame.Goals as goal

pub returns-clause-found : goal.returns-clause-found
returns-clause-found c = frame_found c.args.bytes.now c.read_frame.result (λ i. omega (arith, c.type_inv.bytes i)) c.read_frame.ensures

pub returns-clause-only : goal.returns-clause-only
returns-clause-only c = λ f good e. subst (λ r. Answers c.read_frame.result r) (frame_again c.args.bytes.now f good e) c.read_frame.ensures

pub returns-clause-obeys : goal.returns-clause-obeys
returns-clause-obeys c = frame_obeys c.args.bytes.now c.read_frame.result (frame_found c.args.bytes.now c.read_frame.result (λ i. omega (arith, c.type_inv.bytes i)) c.read_frame.ensures)
