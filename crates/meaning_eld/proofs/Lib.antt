mod Audio
