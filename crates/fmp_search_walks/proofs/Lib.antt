mod Numbered  -- What one knows who notes numbers of states.
