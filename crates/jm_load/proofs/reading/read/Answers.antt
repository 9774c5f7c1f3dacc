use Rattle.sqlite.specs.Held.{state}
use Rattle.jm_load.proofs.Caused.{IsRead, early, first_unread, later_unread, read_then, told_two}
use Rattle.jm_load.proofs.reading.read.Goals as goal

pub returns-in-Err-clause-fault : goal.returns-in-Err-clause-fault
returns-in-Err-clause-fault g c = told_two c.in-Err.error c.fault_of.result c.fault_of.ensures

pub returns-in-Err-messages-clause-fault : goal.returns-in-Err-messages-clause-fault
returns-in-Err-messages-clause-fault g c = told_two c.in-Err-messages.error c.fault_of-in-Err-messages.result c.fault_of-in-Err-messages.ensures

pub returns-in-Err-held-clause-fault : goal.returns-in-Err-held-clause-fault
returns-in-Err-held-clause-fault g c = told_two c.in-Err-held.error c.fault_of-in-Err-held.result c.fault_of-in-Err-held.ensures

pub returns-in-Err-delays-clause-fault : goal.returns-in-Err-delays-clause-fault
returns-in-Err-delays-clause-fault g c = told_two c.in-Err-delays.error c.fault_of-in-Err-delays.result c.fault_of-in-Err-delays.ensures

pub returns-in-Err-clause-cause : goal.returns-in-Err-clause-cause
returns-in-Err-clause-cause g c clean settled serves =
    first_unread (state g.S.Store c.args.conn.now) (state g.S.Store c.stations.new.conn) c.in-Err.error c.fault_of.result c.fault_of.ensures (c.in-Err.ensures.fault clean serves)

pub returns-in-Err-messages-clause-cause : goal.returns-in-Err-messages-clause-cause
returns-in-Err-messages-clause-cause g c clean settled serves =
    let old = state g.S.Store c.args.conn.now in
    let first = state g.S.Store c.stations.new.conn in
    let new = state g.S.Store c.messages.new.conn in
    let read : IsRead old first = record { survives = c.stations.ensures.survives; same = c.stations.ensures.same } in
    later_unread old first new read c.in-Err-messages.error c.fault_of-in-Err-messages.result c.fault_of-in-Err-messages.ensures c.in-Err-messages.ensures.fault c.messages.ensures.survives c.in-Ok.ensures.was_open settled serves clean

pub returns-in-Err-held-clause-cause : goal.returns-in-Err-held-clause-cause
returns-in-Err-held-clause-cause g c clean settled serves =
    let old = state g.S.Store c.args.conn.now in
    let first = state g.S.Store c.stations.new.conn in
    let second = state g.S.Store c.messages.new.conn in
    let new = state g.S.Store c.held.new.conn in
    let read : IsRead old first = record { survives = c.stations.ensures.survives; same = c.stations.ensures.same } in
    let both : IsRead old second = read_then old first second read (record { survives = c.messages.ensures.survives; same = c.messages.ensures.same }) in
    later_unread old second new both c.in-Err-held.error c.fault_of-in-Err-held.result c.fault_of-in-Err-held.ensures c.in-Err-held.ensures.fault c.held.ensures.survives
    (λ late. c.in-Ok.ensures.was_open (early old first second read c.messages.ensures.survives late)) settled serves clean

pub returns-in-Err-delays-clause-cause : goal.returns-in-Err-delays-clause-cause
returns-in-Err-delays-clause-cause g c clean settled serves =
    let old = state g.S.Store c.args.conn.now in
    let first = state g.S.Store c.stations.new.conn in
    let second = state g.S.Store c.messages.new.conn in
    let third = state g.S.Store c.held.new.conn in
    let new = state g.S.Store c.delays.new.conn in
    let read : IsRead old first = record { survives = c.stations.ensures.survives; same = c.stations.ensures.same } in
    let both : IsRead old second = read_then old first second read (record { survives = c.messages.ensures.survives; same = c.messages.ensures.same }) in
    let all : IsRead old third = read_then old second third both (record { survives = c.held.ensures.survives; same = c.held.ensures.same }) in
    later_unread old third new all c.in-Err-delays.error c.fault_of-in-Err-delays.result c.fault_of-in-Err-delays.ensures c.in-Err-delays.ensures.fault c.delays.ensures.survives
    (λ late. c.in-Ok.ensures.was_open (early old first second read c.messages.ensures.survives (early old second third both c.held.ensures.survives late))) settled serves clean
