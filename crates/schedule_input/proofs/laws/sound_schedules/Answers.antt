use Rattle.schedule_input.proofs.Soundness.{first_exactly, majority_firm, majority_kept, sound_exactly, unreverted_is_none}
use Rattle.schedule_input.proofs.laws.sound_schedules.Goals as goal

pub returns-clause-sound : goal.returns-clause-sound
returns-clause-sound c = sound_exactly

pub returns-clause-first : goal.returns-clause-first
returns-clause-first c = first_exactly

pub returns-clause-majority : goal.returns-clause-majority
returns-clause-majority c = majority_kept

pub returns-clause-firm : goal.returns-clause-firm
returns-clause-firm c = majority_firm

pub returns-clause-unreverted : goal.returns-clause-unreverted
returns-clause-unreverted c = unreverted_is_none
