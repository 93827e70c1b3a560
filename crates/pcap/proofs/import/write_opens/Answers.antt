use Rattle.std.proofs.Common.{refl, ◌∙◌}
use Rattle.pcap.proofs.Laying.{laying_begin, laying_room, laying_turn, laying_end, opens-begin, opens_split, opens_end}
use Rattle.pcap.proofs.import.write_opens.Goals as goal

pub loop-session-init : goal.loop-session-init
loop-session-init c = record { laying = rw (opens-begin c.args.sessions.now) (laying_begin c.requires); same_file = (refl, refl) }

pub write_open-requires : goal.write_open-requires
write_open-requires c =
    let so_far = c.loop-session.invariant in
    rw so_far.same_file.1
    (laying_room so_far.laying _ _ (opens_split c.args.sessions.now c.loop-session.session-index c.loop-session-test.true))

pub loop-session-preserved : goal.loop-session-preserved
loop-session-preserved c =
    let so_far = c.loop-session.invariant in
    let wrote = c.write_open.ensures in
    record {
      laying =
          laying_turn so_far.laying _ _ (opens_split c.args.sessions.now c.loop-session.session-index c.loop-session-test.true)
          (rw so_far.same_file.1 at wrote.lays_on);
      same_file = (wrote.same_file.0 ∙ so_far.same_file.0, wrote.same_file.1 ∙ so_far.same_file.1);
    }

pub returns : goal.returns
returns c =
    let so_far = c.loop-session.invariant in
    record {
      lays_on = laying_end so_far.laying (opens_end c.args.sessions.now c.loop-session.session-index c.loop-session-test.false);
      same_file = so_far.same_file;
    }
