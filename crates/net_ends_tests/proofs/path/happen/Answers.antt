use Rattle.std.proofs.Common.{All, subst, sym}
use Rattle.net_ends_tests.specs.Path.{IsOfText}
use Rattle.net_ends_tests.proofs.path.happen.Goals as goal

pub returns-in_ok-send-in-Send : goal.returns-in_ok-send-in-Send
returns-in_ok-send-in-Send g c =
    let is = c.requires in record {
      writing = c.send.ensures.writing c.args.text.now c.args.it.now.written is.writing;
      on_path = c.in_ok-send-in-Send.ensures.path c.args.text.now c.args.it.now.written is.writing is.on_path;
      reading = is.reading;
      within = is.within;
    }

pub returns-in-Arrive : goal.returns-in-Arrive
returns-in-Arrive g c =
    let is = c.requires in record {
      writing = is.writing;
      on_path = is.on_path;
      reading = c.arrive.ensures c.args.text.now c.args.it.now.read c.args.into.now
          (subst (All (IsOfText c.args.text.now)) (sym c.deref.ensures.value) is.on_path) is.reading;
      within = is.within;
    }
