use Rattle.net_receiver.proofs.Words.{◌≡◌, ◌++◌, take, receiver_after_commands, receiver_replies, command_values}
use Rattle.net_receiver.proofs.Words.{new_replies, items_after}
use Rattle.net_receiver.proofs.schedule.replay_core.Given as goal

-- the commands before this one were run
abbrev pub invariant-loop-command : goal.invariant-loop-command
invariant-loop-command g l =
    record {
      state : l.receiver ≡ receiver_after_commands g.row.N l.fn.receiver
          (take l.command-index (command_values l.commands));
      pushed : l.replies.items ≡ l.fn.replies.items ++ items_after l.fn.replies.items l.replies.items;
      replies : new_replies l.fn.replies.items l.replies.items
          ≡ receiver_replies g.row.N l.fn.receiver (take l.command-index (command_values l.commands));
    }
