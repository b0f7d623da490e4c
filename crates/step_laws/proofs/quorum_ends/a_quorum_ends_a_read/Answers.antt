use Rattle.step_laws.proofs.Gathering.{read_waits, read_absent, read_overwrites, read_settles, read_rewrites, read_lost, read_waits_on}
use Rattle.step_laws.proofs.quorum_ends.a_quorum_ends_a_read.Goals as goal

pub returns-clause-waits : goal.returns-clause-waits
returns-clause-waits c = λ key round replies l whole h none. read_waits key round replies l whole h none

pub returns-clause-absent : goal.returns-clause-absent
returns-clause-absent c = λ key round replies w l whole h runs quorum none. read_absent key round replies l whole h w runs quorum none

pub returns-clause-overwrites : goal.returns-clause-overwrites
returns-clause-overwrites c = λ key round replies w u content l whole h runs quorum top is. read_overwrites key round replies l whole h w runs u top content quorum is

pub returns-clause-settles : goal.returns-clause-settles
returns-clause-settles c = λ key round replies w u o l whole h runs quorum top needs at same. read_settles key round replies l whole h w runs u top o quorum needs at same

pub returns-clause-rewrites : goal.returns-clause-rewrites
returns-clause-rewrites c = λ key round replies w u o l whole h runs quorum top needs at apart. read_rewrites key round replies l whole h w runs u top o quorum needs at apart

pub returns-clause-lost : goal.returns-clause-lost
returns-clause-lost c = λ key round replies w u l whole h runs quorum top needs none every. read_lost key round replies l whole h w runs u top quorum needs none every

pub returns-clause-waits_for_the_object : goal.returns-clause-waits_for_the_object
returns-clause-waits_for_the_object c = λ key round replies w u l whole h runs top needs none some. read_waits_on key round replies l whole h w runs u top needs none some
