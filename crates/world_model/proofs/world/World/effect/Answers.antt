use Rattle.std.proofs.Common.{rules, ◌≡◌, [], ap, sym, refl}
use Rattle.world_spec.proofs.Growth.{changed_hashed, changed_mail, deepening_hashed, deepening_mail}
use Rattle.schedule_text.specs.declared.event.ScheduleEvent.TheVariants.{Call, Deliver, Pass, Change, Start, Damage}
use Rattle.world_spec.specs.Lines.{effect, set_of, with_damage, with_loss, stores_effect}
use Rattle.world_spec.specs.Messages.{IsWithinMessages}
use Rattle.world_spec.specs.Stores.{segment_spoiled}
use Rattle.world_spec.specs.Nodes.{over_stores, started, stopped}
use Rattle.world_spec.specs.Runs.{changed, mode_at, upgraded, with_deepening, with_start}
use Rattle.world_model.specs.Turns.{turn, turns_of}
use Rattle.world_model.specs.Worlds.{run_of}
use Rattle.world_model.proofs.Begins.{begins_sent, begins_changed, begins_upgraded, begins_deepened}
use Rattle.world_model.proofs.Reached.{quiet_led, quiet_reaches, reaches_same}
use Rattle.world_model.proofs.StoreLines.{stores_line, stores_hashed, stores_mail}
use Rattle.world_model.proofs.Turning.{quiet_stops, stops_only, unsent_stops}
use Rattle.world_model.proofs.world.World.effect.Goals as goal

pub returns-in-Lose-clause-reaches : goal.returns-in-Lose-clause-reaches
returns-in-Lose-clause-reaches g c =
    let due = with_loss c.in-Lose.sender c.in-Lose.receiver (run_of c.args.self.now) in
    rw c.in-Lose.is (quiet_led _ due _ (refl {a = []}) (rw c.lose.ensures refl) c.args.self.now.within)

pub returns-in-Lose-clause-begins : goal.returns-in-Lose-clause-begins
returns-in-Lose-clause-begins g c = begins_sent c.args.self.now _ (ap (λ m. m.sent) c.lose.ensures) refl

pub returns-in-Stop-clause-reaches : goal.returns-in-Stop-clause-reaches
returns-in-Stop-clause-reaches g c =
    let due = changed c.in-Stop.peer stopped (run_of c.args.self.now) in
    rw c.in-Stop.is (quiet_led _ due _ (changed_hashed c.in-Stop.peer stopped (run_of c.args.self.now)) c.stop.ensures (rw (changed_mail c.in-Stop.peer stopped (run_of c.args.self.now)) c.args.self.now.within))

pub returns-in-Stop-clause-begins : goal.returns-in-Stop-clause-begins
returns-in-Stop-clause-begins g c = begins_changed c.args.self.now _ _ _ c.stop.ensures

pub returns-in-Upgrade-clause-reaches : goal.returns-in-Upgrade-clause-reaches
returns-in-Upgrade-clause-reaches g c =
    let due = upgraded c.in-Upgrade.peer (run_of c.args.self.now) in
    rw c.in-Upgrade.is (quiet_led _ due _ (refl {a = []}) c.upgrade.ensures c.args.self.now.within)

pub returns-in-Upgrade-clause-begins : goal.returns-in-Upgrade-clause-begins
returns-in-Upgrade-clause-begins g c = begins_upgraded c.args.self.now _ c.in-Upgrade.peer c.upgrade.ensures

pub returns-in-Deepen-clause-reaches : goal.returns-in-Deepen-clause-reaches
returns-in-Deepen-clause-reaches g c =
    let due = with_deepening (run_of c.args.self.now) in
    rw c.in-Deepen.is (quiet_led _ due _ (deepening_hashed (run_of c.args.self.now)) c.deepen.ensures (rw (deepening_mail (run_of c.args.self.now)) c.args.self.now.within))

pub returns-in-Deepen-clause-begins : goal.returns-in-Deepen-clause-begins
returns-in-Deepen-clause-begins g c = begins_deepened c.args.self.now _ c.deepen.ensures

pub returns-in_default-clause-reaches : goal.returns-in_default-clause-reaches
returns-in_default-clause-reaches g c = reaches_same _ (stores_effect c.args.event.now (run_of c.args.self.now)) (effect c.args.event.now (run_of c.args.self.now)) c.effect_on_stores.result _ _
    (sym (stores_line c.args.event.now (run_of c.args.self.now) c.in_default.not-Call c.in_default.not-Tick c.in_default.not-Deliver c.in_default.not-Pass c.in_default.not-Lose c.in_default.not-Calm c.in_default.not-CalmAmong c.in_default.not-Change c.in_default.not-Stop c.in_default.not-Start c.in_default.not-Upgrade c.in_default.not-Deepen c.in_default.not-Damage))
    (quiet_reaches _ (stores_effect c.args.event.now (run_of c.args.self.now)) c.effect_on_stores.result _ (stores_hashed c.args.event.now (run_of c.args.self.now)) c.effect_on_stores.ensures.reaches)

pub returns-in-Call-clause-stops : goal.returns-in-Call-clause-stops
returns-in-Call-clause-stops g c = rw c.in-Call.is (stops_only (effect (Call c.in-Call.peer c.in-Call.id c.in-Call.key c.in-Call.command)) c.args.self.now _ _ c.call.result c.call.ensures.stops)

pub returns-in-Deliver-clause-stops : goal.returns-in-Deliver-clause-stops
returns-in-Deliver-clause-stops g c = rw c.in-Deliver.is (stops_only (effect (Deliver c.in-Deliver.message)) c.args.self.now _ _ c.deliver.result c.deliver.ensures.stops)

pub returns-in-Pass-clause-stops : goal.returns-in-Pass-clause-stops
returns-in-Pass-clause-stops g c = rw c.in-Pass.is (stops_only (effect (Pass c.in-Pass.sender c.in-Pass.receiver)) c.args.self.now _ _ c.pass.result c.pass.ensures.stops)

pub returns-in-Change-clause-stops : goal.returns-in-Change-clause-stops
returns-in-Change-clause-stops g c = rw c.in-Change.is (stops_only (effect (Change c.in-Change.peer c.in-Change.view)) c.args.self.now _ _ c.step_peer.result c.step_peer.ensures.stops)

pub returns-in-Start-clause-stops : goal.returns-in-Start-clause-stops
returns-in-Start-clause-stops g c =
    let w = run_of c.args.self.now in
    let within : IsWithinMessages (with_start c.in-Start.peer w) = rw (changed_mail c.in-Start.peer (started (mode_at c.in-Start.peer w) w.view) w) c.args.self.now.within in
    rw c.in-Start.is (stops_only (effect (Start c.in-Start.peer)) c.args.self.now _ _ c.start.result (unsent_stops _ (with_start c.in-Start.peer w) _ c.start.result _ within c.start.ensures.reaches))

pub returns-in-Damage-clause-stops : goal.returns-in-Damage-clause-stops
returns-in-Damage-clause-stops g c =
    let w = run_of c.args.self.now in
    let due = with_damage c.in-Damage.peer c.in-Damage.key c.in-Damage.bytes w in
    let within : IsWithinMessages due = rw (changed_mail c.in-Damage.peer (over_stores (segment_spoiled c.in-Damage.key c.in-Damage.bytes)) w) c.args.self.now.within in
    rw c.in-Damage.is (stops_only (effect (Damage c.in-Damage.peer c.in-Damage.key c.in-Damage.bytes)) c.args.self.now _ _ c.damage.result (unsent_stops _ due _ c.damage.result _ within c.damage.ensures.reaches))

pub returns-in_default-clause-stops : goal.returns-in_default-clause-stops
returns-in_default-clause-stops g c = quiet_stops (turns_of c.args.event.now) (turn c.args.event.now) c.args.self.now _ _ c.effect_on_stores.result (stores_effect c.args.event.now (run_of c.args.self.now)) _ (stores_mail c.args.event.now (run_of c.args.self.now)) c.effect_on_stores.ensures.reaches

pub returns-in-Tick-clause-stops : goal.returns-in-Tick-clause-stops
returns-in-Tick-clause-stops g c = rw c.in-Tick.is c.tick.ensures.stops

pub returns-in-Calm-clause-stops : goal.returns-in-Calm-clause-stops
returns-in-Calm-clause-stops g c = rw c.in-Calm.is (rw c.all_peers.ensures at c.calm.ensures.stops)

pub returns-in-CalmAmong-clause-stops : goal.returns-in-CalmAmong-clause-stops
returns-in-CalmAmong-clause-stops g c =
    let same : c.set_of_members.result ≡ set_of c.in-CalmAmong.members = search rules in
    rw c.in-CalmAmong.is (rw same at c.calm-in-CalmAmong.ensures.stops)
