use Rattle.std.proofs.Common.{string_bytes}
use Rattle.schedule_text.specs.Forms.{ensemble_line}
use Rattle.schedule_text.specs.Spelling.{peers_line, view_line}
use Rattle.schedule_text.proofs.Spaced.{heading_written}
use Rattle.schedule_text.proofs.writing.push_heading.Goals as goal

pub returns : goal.returns
returns c =
    heading_written (string_bytes c.args.out.now) _ _ _ _ _ _ (ensemble_line c.args.form) (peers_line c.args.peers) (view_line c.args.view.now)
    (rw c.line.ensures at c.in_ok-push_str.ensures.bytes) c.in_ok-push_str-2.ensures.bytes c.in_ok-push_peers.ensures c.in_ok-push_str-3.ensures.bytes c.in_ok-push_view.ensures c.in_ok-push_str-4.ensures.bytes
