use Rattle.root_laws.proofs.Prefixes.{run_openings, run_printed, run_root_events, run_slot_events}
use Rattle.root_laws.proofs.Opened.{few_events, run_opened}
use Rattle.root_laws.proofs.laws.root_runs_go_line_by_line.Goals as goal

pub returns-clause-printed : goal.returns-clause-printed
returns-clause-printed c = λ worlds s script growing. run_printed worlds s growing (few_events s script) script

pub returns-clause-root : goal.returns-clause-root
returns-clause-root c = λ worlds s script growing. run_root_events worlds s growing (few_events s script) script

pub returns-clause-slots : goal.returns-clause-slots
returns-clause-slots c = λ worlds s script growing slot. run_openings worlds s growing (few_events s script) script slot

pub returns-clause-branches : goal.returns-clause-branches
returns-clause-branches c = λ worlds s script growing slot branch shows. run_slot_events worlds s growing (few_events s script) script slot branch shows

pub returns-clause-opened : goal.returns-clause-opened
returns-clause-opened c = λ worlds s script growing. run_opened worlds s growing script
