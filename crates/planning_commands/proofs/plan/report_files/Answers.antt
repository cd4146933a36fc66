use Rattle.planning_commands.proofs.plan.report_files.Goals as goal

pub returns : goal.returns
returns g c =
    let opened = c.in_ok-sequencer.ensures.opened in
    record {
      aerodrome = opened.aerodrome;
      flights = opened.flights;
      aerodrome_read = opened.aerodrome_read;
      flights_read = opened.flights_read;
      holds = record {
        state = c.in_ok-sequencer.sequencer.state;
        opened = opened.holds;
        prints = c.in_ok-report_plan.ensures.text;
        answers = c.in_ok-report_plan.ensures.answer;
      };
    }
