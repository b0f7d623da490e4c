use Rattle.cluster.proofs.Stepping.{text_parts}
use Rattle.cluster.proofs.recorder.Recorder.text.Goals as goal

pub returns : goal.returns
returns c = (_, c.in_ok-printed.ensures, text_parts _ _ _ _ _ c.as_bytes.result.now c.in-Ok.ensures.text c.in_ok-extend_from_slice.ensures.items c.as_bytes.ensures.value c.in_ok-extend_from_slice-2.ensures.items)
