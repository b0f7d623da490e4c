use Rattle.process_laws.proofs.GroupStory.{story_answered, story_called, story_sound}
use Rattle.process_laws.proofs.life_laws.a_group_may_complete_calls.Goals as goal

pub returns-clause-sound : goal.returns-clause-sound
returns-clause-sound c = story_sound

pub returns-clause-calls : goal.returns-clause-calls
returns-clause-calls c = story_called

pub returns-clause-answers : goal.returns-clause-answers
returns-clause-answers c = story_answered
