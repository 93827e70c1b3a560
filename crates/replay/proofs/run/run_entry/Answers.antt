-- `replay::run::run_entry` makes the call that the entry stands for (`Running`).
use Rattle.std.proofs.Common.{arith, ap, ◌∙◌}
use Rattle.capture.specs.Kind.{number_of}
use Rattle.replay.proofs.Running.{opens_psp, opens_dmpt, closes_row, hands-packet, no_call}
use Rattle.replay.proofs.run.run_entry.Goals.{in_default-via-in-Ok+in_default, in_default-via-in_default}
use Rattle.replay.proofs.run.run_entry.Goals as goal

pub returns-in-Ok-OpenPsp-clause-runs : goal.returns-in-Ok-OpenPsp-clause-runs
returns-in-Ok-OpenPsp-clause-runs c =
    let a = c.args in
    let arm = c.in-Ok-OpenPsp in
    opens_psp a.table a.lent.now a.kind a.body.now (arm.ensures ∙ ap number_of arm.field-0-is) _ _
    c.read_u32.ensures c.«open».ensures

pub returns-in-Ok-OpenDmpt-clause-runs : goal.returns-in-Ok-OpenDmpt-clause-runs
returns-in-Ok-OpenDmpt-clause-runs c =
    let a = c.args in
    let arm = c.in-Ok-OpenDmpt in
    opens_dmpt a.table a.lent.now a.kind a.body.now (arm.ensures ∙ ap number_of arm.field-0-is) _ _
    c.read_u32-in-Ok-OpenDmpt.ensures c.open-in-Ok-OpenDmpt.ensures

pub returns-in-Ok-Close-clause-runs : goal.returns-in-Ok-Close-clause-runs
returns-in-Ok-Close-clause-runs c =
    let a = c.args in
    let arm = c.in-Ok-Close in
    closes_row a.table a.lent.now a.kind a.body.now (arm.ensures ∙ ap number_of arm.field-0-is) _ _
    c.read_u32-in-Ok-Close.ensures c.close.ensures

pub returns-in_default-clause-runs : goal.returns-in_default-clause-runs
returns-in_default-clause-runs c =
    let a = c.args in
    let packet = hands-packet a.table a.lent.now a.kind a.body.now in
    elim c.in_default.branch [
      | in_default-via-in-Ok+in_default w ↦
          let n = no_call a.kind c.try_from.result c.try_from.ensures (λ e. grind arith) (λ e. grind arith) (λ e. grind arith) in
          packet n.0 n.1 n.2 _ c.transport_of-transport.ensures _ _ c.receive.ensures
      | in_default-via-in_default w ↦
          let n = no_call a.kind c.try_from.result c.try_from.ensures (λ e. grind arith) (λ e. grind arith) (λ e. grind arith) in
          packet n.0 n.1 n.2 _ c.transport_of-transport.ensures _ _ c.receive.ensures
    ]
