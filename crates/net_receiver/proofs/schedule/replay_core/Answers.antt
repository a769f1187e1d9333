use Rattle.net_receiver.proofs.Words.{◌∙◌, ◌++◌, ◌∷◌, [], ap, sym, arith}
use Rattle.net_receiver.proofs.Words.{false≢true, length-map, command_value, new_replies}
use Rattle.std.proofs.lemmas.Result.{err_from_is_err_and}
use Rattle.std.specs.Result.{is_ok}
use Rattle.net_receiver.proofs.Schedules.{state_more, replies_more, whole_appended}
use Rattle.net_receiver.proofs.schedule.replay_core.Goals as goal

pub loop-command-preserved : goal.loop-command-preserved
loop-command-preserved g c =
    let more = c.push_reserved.ensures.items ∙ ap (λ xs. xs ++ c.in_ok-reply.reply ∷ []) c.reserve.ensures.items in
    record {
      state =
          state_more g.row.N c.args.receiver.now c.loop-command.receiver c.execute.new.receiver c.args.commands.now
          c.loop-command.command-index c.command-item.result c.loop-command-test.true c.command-item.is
          c.loop-command.invariant.state c.in_ok-reply.ensures.state;
      pushed =
          whole_appended c.args.replies.now.items c.loop-command.replies.items c.push_reserved.new.self.items
          c.in_ok-reply.reply c.loop-command.invariant.pushed more;
      replies =
          replies_more g.row.N c.args.receiver.now c.loop-command.receiver c.args.replies.now.items
          c.loop-command.replies.items c.push_reserved.new.self.items c.in_ok-reply.reply c.args.commands.now
          c.loop-command.command-index c.command-item.result c.loop-command-test.true c.command-item.is
          c.loop-command.invariant.state c.loop-command.invariant.pushed c.loop-command.invariant.replies
          c.in_ok-reply.ensures.reply more;
    }

-- the command that failed left what those before it made
pub returns-in_err-reply-clause-stored : goal.returns-in_err-reply-clause-stored
returns-in_err-reply-clause-stored g c =
    record {
      prefix = record {
        count = c.loop-command.command-index;
        within = let size = length-map c.args.commands.now command_value in omega arith;
        whole =
            λ done. (let failed = err_from_is_err_and c.from_residual-in_err-reply.result
            c.from_residual-in_err-reply.ensures.1 in
            absurd (false≢true (sym (ap is_ok failed.1) ∙ done)));
      };
      state = c.in_err-reply.ensures.unchanged ∙ c.loop-command.invariant.state;
      replies = ap (new_replies c.args.replies.now.items) c.reserve.ensures.items ∙ c.loop-command.invariant.replies;
    }

-- no memory for a reply: the commands before it were run
pub returns-in_err-reserve-clause-stored : goal.returns-in_err-reserve-clause-stored
returns-in_err-reserve-clause-stored g c =
    record {
      prefix = record {
        count = c.loop-command.command-index;
        within = let size = length-map c.args.commands.now command_value in omega arith;
        whole =
            λ done. (let failed = err_from_is_err_and c.from_residual.result c.from_residual.ensures.1 in
            absurd (false≢true (sym (ap is_ok failed.1) ∙ done)));
      };
      state = c.loop-command.invariant.state;
      replies = ap (new_replies c.args.replies.now.items) c.reserve.ensures.items ∙ c.loop-command.invariant.replies;
    }

-- all commands were run
pub returns-clause-stored : goal.returns-clause-stored
returns-clause-stored g c =
    let size = length-map c.args.commands.now command_value in
    record {
      prefix = record {
        count = c.loop-command.command-index;
        within = omega arith;
        whole = λ done. (omega arith);
      };
      state = c.loop-command.invariant.state;
      replies = c.loop-command.invariant.replies;
    }
