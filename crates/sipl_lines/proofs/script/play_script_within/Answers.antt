use Rattle.sipl_lines.proofs.script.play_script_within.Goals as goal

pub returns : goal.returns
returns g c =
    record {
      script = c.serve_conversation.new.conversation;
      serves = c.serve_conversation.ensures;
    }
